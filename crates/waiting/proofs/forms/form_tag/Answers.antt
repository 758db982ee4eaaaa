-- `waiting::forms::form_tag` meets its contract. Assumes nothing.
use Rattle.waiting.proofs.Forming.{tag-there}
use Rattle.waiting.specs.Forms.{form_tag}
use mathlib.Core.Logic.{inl, inr}
use native.Mathlib.Omega.{arith}
use Rattle.waiting.proofs.forms.form_tag.Goals as goal

pub overflow_sub-result : goal.overflow_sub-result
overflow_sub-result c =
    let t = tag-there c.args.cells c.args.ws.now c.args.k c.requires.ws_len.1 in
    let b = rw c.in-Front.is at c.requires.tagging in
    omega arith

pub returns-in-Front : goal.returns-in-Front
unfolding form_tag
returns-in-Front c = rw c.in-Front.is (rw (tag-there c.args.cells c.args.ws.now c.args.k c.requires.ws_len.1))

pub returns-in-Replace : goal.returns-in-Replace
unfolding form_tag
returns-in-Replace c =
    let tag = tag-there c.args.cells c.args.ws.now c.args.k c.requires.ws_len.1 in
    elim c.in-Replace.is [ inl e ↦ rw e tag | inr e ↦ rw e tag ]
