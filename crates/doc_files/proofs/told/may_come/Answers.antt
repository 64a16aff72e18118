use Rattle.std.proofs.Common.{ℕ, sym, ap, ◌∙◌}
use Rattle.host_trace.specs.Fits.{fits}
use Rattle.doc_files.proofs.BothLaws.{fits_seen}
use Rattle.doc_files.proofs.told.may_come.Goals as goal

pub returns : goal.returns
returns c = λ is.
    fits_seen c.args.items.now c.args.event.now
    (sym (c.fits.ensures ∙ ap (λ (n : ℕ). fits n c.args.items.now c.args.event.now) c.seen_by.ensures) ∙ is)
