use Rattle.std.proofs.Common.{ℕ, ◌-◌, get_or, arith, ap, sym, ◌∙◌, length, take}
use Rattle.body_framing.specs.Places.{place_after}
use Rattle.body_framing.specs.Chunked.{Standing, after_all, read_len}
use Rattle.body_framing.specs.declared.place.Place.{Place}
use Rattle.body_framing.specs.declared.place.Place.TheVariants.{Data}
use Rattle.body_framing.proofs.Runs.{standing, no_data, after_one, read_len-one, read_len-data}
use Rattle.body_framing.proofs.chunks.Chunks.read_some.Goals as goal

pub returns-in-Data-clause-counted : goal.returns-in-Data-clause-counted
returns-in-Data-clause-counted c =
    let s = c.self.inside in
    ap (λ (t : Standing). read_len t (take (length c.data_front-next.result.0.now) c.args.bytes.now)) (sym c.self.view_is)
    ∙ ap (λ (p : Place). read_len (standing s.limit p s.decoded.items) (take (length c.data_front-next.result.0.now) c.args.bytes.now)) c.in-Data.is
    ∙ ap (read_len (standing s.limit (Data c.in-Data.left) s.decoded.items)) (sym c.data_front-next.ensures.front)
    ∙ read_len-data s.limit c.in-Data.left s.decoded.items c.data_front-next.result.0.now (omega (arith, c.data_front-next.ensures.fits))

pub returns-clause-read : goal.returns-clause-read
returns-clause-read c =
    let s = c.self.inside in
    ap (λ (p : Place). standing s.limit p s.decoded.items)
    (c.place_after-self-inside.ensures
    ∙ ap (λ (room : ℕ). place_after room s.place (get_or c.args.bytes.now 0 0))
    (c.room.ensures ∙ ap (λ (t : Standing). t.limit - length t.decoded) (sym c.self.view_is)))
    ∙ after_one (standing s.limit s.place s.decoded.items) c.args.bytes.now c.requires.some (no_data s.place c.in_default.not-Data)
    ∙ ap (λ (t : Standing). after_all t (take 1 c.args.bytes.now)) c.self.view_is

pub returns-clause-counted : goal.returns-clause-counted
returns-clause-counted c =
    read_len-one c.args.self.now c.args.bytes.now c.requires.some c.requires.going
