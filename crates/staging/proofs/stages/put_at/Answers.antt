-- `staging::stages::put_at` meets its contract. Assumes nothing.
use mathlib.Core.Path.{sym, ◌∙◌}
use Rattle.staging.proofs.StageWays.{lent_fits, unload-given, put-large, put-fits}
use Rattle.staging.proofs.stages.put_at.Goals as goal

pub returns-then-not-fits : goal.returns-then-not-fits
returns-then-not-fits c =
    let f = lent_fits c.args.xs.now c.args.bs.now c.fits.result c.fits.ensures c.requires.wf.1 in
    λ at e. put-large at _ _ _ _ c.requires.ready _ c.requires.found c.requires.wf.1 e (sym f ∙ c.if-not-fits.true)

pub unload-requires : goal.unload-requires
unload-requires c =
    let f = lent_fits c.args.xs.now c.args.bs.now c.fits.result c.fits.ensures c.requires.wf.1 in
    let both = unload-given c.args.group c.args.k c.args.xs.now c.args.bs.now c.requires.found c.requires.xs_len c.requires.wf (sym f ∙ c.if-not-fits.false) in record { k_bound = both.0; fitting = both.1 }

pub returns : goal.returns
returns c =
    let f = lent_fits c.args.xs.now c.args.bs.now c.fits.result c.fits.ensures c.requires.wf.1 in
    λ at e. put-fits at _ _ _ _ c.requires.ready _ c.requires.found c.requires.wf.1 e (sym f ∙ c.if-not-fits.false) c.requires.xs_len.0 c.requires.xs_len.1 _ _ c.unload.ensures
