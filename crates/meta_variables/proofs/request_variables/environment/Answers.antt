use Rattle.std.proofs.Common.{◌≡◌, ◌<◌, List, length, Some, sym, ap, ◌∙◌, subst}
use Rattle.std.specs.Prelude.{slice_get, option_map}
use Rattle.std.proofs.lemmas.Option.{slice_get_within}
use Rattle.host_base.specs.declared.site.VHost.{VHost}
use Rattle.host_base.specs.declared.launch.Pair.{Pair}
use Rattle.meta_variables.specs.Environment.{environment_at, environment_of}
use Rattle.meta_variables.proofs.PlaceLaws.{named_places, read_at}
use Rattle.meta_variables.proofs.PushLaws.{if_ok}
use Rattle.meta_variables.proofs.request_variables.environment.Goals as goal

pub bounds-as_slice-mapped : goal.bounds-as_slice-mapped
bounds-as_slice-mapped c =
    let site = c.args.site.now in
    let mapped = c.args.mapped.now in
    let places = named_places site mapped c.requires.script in
    subst (λ (l : List VHost). mapped.host < length l) (sym c.as_slice.ensures) (slice_get_within site.hosts mapped.host places.host places.host_at)

pub returns : goal.returns
returns c =
    let site = c.args.site.now in
    let mapped = c.args.mapped.now in
    let places = named_places site mapped c.requires.script in
    let host = read_at c.as_slice.result.now mapped.host places.host c.index-as_slice-mapped.result
    (ap (λ (l : List VHost). slice_get l mapped.host) c.as_slice.ensures ∙ places.host_at) c.index-as_slice-mapped.is in
    if_ok c.environment_at.result _ (λ variables. environment_of site c.args.peer.now c.args.request.now mapped ≡ Some variables)
    (λ variables is.
    ap (option_map (λ h. environment_at site h c.args.peer.now c.args.request.now mapped)) places.host_at
    ∙ ap (λ (h : VHost). Some (environment_at site h c.args.peer.now c.args.request.now mapped)) (sym host) ∙ ap (λ (l : List Pair). Some l) (sym is))
    c.environment_at.ensures
