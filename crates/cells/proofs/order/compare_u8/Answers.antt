-- `cells::order::compare_u8` meets its contract: what is left after the words that are the same is ordered as the whole. Assumes nothing.
use mathlib.Core.Path.{◌≡◌, refl, sym, ◌∙◌}
use Prim.Native.Nat.{◌+◌, ◌*◌, min}
use native.Mathlib.Nat.{add-zero}
use native.Mathlib.Omega.{arith}
use Rattle.std.proofs.lemmas.Slice.{between_to_end}
use lib.ListN.{length, drop, length-append, length-drop}
use borrow.Author.Rules.{rules}
use Rattle.std.proofs.lemmas.Slice.Zip.{zip_turn, zip_end}
use Rattle.cells.proofs.Words.{byte_order_is, decided, by_chunk, by_rest, by_lengths}
use Rattle.cells.proofs.order.compare_u8.Goals as goal

pub loop-x-init : goal.loop-x-init
loop-x-init c = byte_order_is _ _

pub returns-in_default : goal.returns-in_default
returns-in_default c =
    let t = zip_turn c.as_chunks.result.0.now c.as_chunks-2.result.0.now c.loop-x.yielded c.into_iter-x-iterator.result c.loop-x.x-iterator c.next.new.self c.next.result (search rules) (search rules) c.loop-x.yielded_by (c.in-Some.x, c.in-Some.y) c.in-Some.is c.next.ensures.steps in
    sym (c.loop-x.invariant ∙ by_chunk c.args.a.now c.args.b.now c.type_inv.a c.type_inv.b (length c.loop-x.yielded) _ _ _ _ _ _ _ c.as_chunks.ensures.front c.as_chunks-2.ensures.front (search rules) (search rules) (t.2 _) (t.3 _) c.from_be_bytes.ensures c.from_be_bytes-in-loop-x.ensures c.cmp.ensures ∙ decided _ _ c.in_default.not-Equal)

pub loop-x-preserved : goal.loop-x-preserved
loop-x-preserved c =
    let t = zip_turn c.as_chunks.result.0.now c.as_chunks-2.result.0.now c.loop-x.yielded c.into_iter-x-iterator.result c.loop-x.x-iterator c.next.new.self c.next.result (search rules) (search rules) c.loop-x.yielded_by (c.in-Some.x, c.in-Some.y) c.in-Some.is c.next.ensures.steps in
    let h = by_chunk c.args.a.now c.args.b.now c.type_inv.a c.type_inv.b (length c.loop-x.yielded) _ _ _ _ _ _ _ c.as_chunks.ensures.front c.as_chunks-2.ensures.front (search rules) (search rules) (t.2 _) (t.3 _) c.from_be_bytes.ensures c.from_be_bytes-in-loop-x.ensures c.cmp.ensures in
    rw length-append (c.loop-x.invariant ∙ (rw c.in-Equal.is at h))

pub loop-v-init : goal.loop-v-init
loop-v-init c =
    let t = zip_end c.as_chunks.result.0.now c.as_chunks-2.result.0.now c.loop-x.yielded c.into_iter-x-iterator.result c.loop-x.x-iterator c.next.new.self c.next.result (search rules) (search rules) c.loop-x.yielded_by c.in-None.is c.next.ensures.steps in
    let e : length c.loop-x.yielded ≡ c.min-compared.result = t ∙ sym c.min-compared.ensures in
    rw add-zero (rw e at c.loop-x.invariant)

pub returns-in_default-cmp : goal.returns-in_default-cmp
returns-in_default-cmp c =
    let t = zip_turn (drop (c.min-compared.result * 8) c.args.a.now) (drop (c.min-compared.result * 8) c.args.b.now) c.loop-v.yielded c.into_iter-v-iterator.result c.loop-v.v-iterator c.next-in-loop-v.new.self c.next-in-loop-v.result (grind (arith, between_to_end)) (grind (arith, between_to_end)) c.loop-v.yielded_by (c.in-Some-2.v, c.in-Some-2.w) c.in-Some-2.is c.next-in-loop-v.ensures.steps in
    sym (c.loop-v.invariant ∙ by_rest c.args.a.now c.args.b.now c.type_inv.a c.type_inv.b (c.min-compared.result * 8) (length c.loop-v.yielded) _ _ _ _ _ refl refl (t.0) (t.1) (t.2 _) (t.3 _) c.cmp-in-loop-v.ensures ∙ decided _ _ c.in_default-cmp.not-Equal)

pub loop-v-preserved : goal.loop-v-preserved
loop-v-preserved c =
    let t = zip_turn (drop (c.min-compared.result * 8) c.args.a.now) (drop (c.min-compared.result * 8) c.args.b.now) c.loop-v.yielded c.into_iter-v-iterator.result c.loop-v.v-iterator c.next-in-loop-v.new.self c.next-in-loop-v.result (grind (arith, between_to_end)) (grind (arith, between_to_end)) c.loop-v.yielded_by (c.in-Some-2.v, c.in-Some-2.w) c.in-Some-2.is c.next-in-loop-v.ensures.steps in
    let h = by_rest c.args.a.now c.args.b.now c.type_inv.a c.type_inv.b (c.min-compared.result * 8) (length c.loop-v.yielded) _ _ _ _ _ refl refl (t.0) (t.1) (t.2 _) (t.3 _) c.cmp-in-loop-v.ensures in
    rw length-append (c.loop-v.invariant ∙ (rw c.in-Equal-cmp.is at h))

pub returns : goal.returns
returns c =
    let t = zip_end (drop (c.min-compared.result * 8) c.args.a.now) (drop (c.min-compared.result * 8) c.args.b.now) c.loop-v.yielded c.into_iter-v-iterator.result c.loop-v.v-iterator c.next-in-loop-v.new.self c.next-in-loop-v.result (grind (arith, between_to_end)) (grind (arith, between_to_end)) c.loop-v.yielded_by c.in-None-2.is c.next-in-loop-v.ensures.steps in
    let e : c.min-compared.result * 8 + length c.loop-v.yielded ≡ min (length c.args.a.now) (length c.args.b.now) = omega (arith, t, length-drop (c.min-compared.result * 8) c.args.a.now, length-drop (c.min-compared.result * 8) c.args.b.now) in
    c.cmp-2.ensures ∙ sym (c.loop-v.invariant ∙ by_lengths c.args.a.now c.args.b.now _ e)
