use Rattle.std.proofs.Common.{◌≡◌, ◌<◌, List, length, Some, sym, ap, ◌∙◌, subst}
use Rattle.std.specs.Prelude.{slice_get, option_map, option_and_then}
use Rattle.std.proofs.lemmas.Option.{slice_get_within}
use Rattle.host_base.specs.declared.site.VHost.{VHost}
use Rattle.host_base.specs.declared.site.Script.{Script}
use Rattle.host_base.specs.declared.launch.Launch.{Launch}
use Rattle.meta_variables.specs.Launch.{launch_at, launch_in, launch_of}
use Rattle.meta_variables.proofs.PlaceLaws.{named_places, read_at}
use Rattle.meta_variables.proofs.PushLaws.{if_ok}
use Rattle.meta_variables.proofs.start.launch.Goals as goal

pub bounds-as_slice-mapped : goal.bounds-as_slice-mapped
bounds-as_slice-mapped c =
    let site = c.args.site.now in
    let mapped = c.args.mapped.now in
    let places = named_places site mapped c.requires.script in
    subst (λ (l : List VHost). mapped.host < length l) (sym c.as_slice.ensures) (slice_get_within site.hosts mapped.host places.host places.host_at)

pub bounds-as_slice-mapped-2 : goal.bounds-as_slice-mapped-2
bounds-as_slice-mapped-2 c =
    let site = c.args.site.now in
    let mapped = c.args.mapped.now in
    let places = named_places site mapped c.requires.script in
    let host = read_at c.as_slice.result.now mapped.host places.host c.index-as_slice-mapped.result
    (ap (λ (l : List VHost). slice_get l mapped.host) c.as_slice.ensures ∙ places.host_at) c.index-as_slice-mapped.is in
    subst (λ (l : List Script). mapped.index < length l) (sym (c.as_slice-2.ensures ∙ ap (λ (h : VHost). h.scripts) host))
    (slice_get_within places.host.scripts mapped.index places.script places.script_at)

pub returns : goal.returns
returns c =
    let site = c.args.site.now in
    let peer = c.args.peer.now in
    let request = c.args.request.now in
    let mapped = c.args.mapped.now in
    let places = named_places site mapped c.requires.script in
    let host = read_at c.as_slice.result.now mapped.host places.host c.index-as_slice-mapped.result
    (ap (λ (l : List VHost). slice_get l mapped.host) c.as_slice.ensures ∙ places.host_at) c.index-as_slice-mapped.is in
    let script = read_at c.as_slice-2.result.now mapped.index places.script c.index-as_slice-mapped-2.result
    (ap (λ (l : List Script). slice_get l mapped.index) (c.as_slice-2.ensures ∙ ap (λ (h : VHost). h.scripts) host) ∙ places.script_at) c.index-as_slice-mapped-2.is in
    if_ok c.launch_at.result _ (λ launch. launch_of site peer request mapped ≡ Some launch)
    (λ launch is.
    ap (option_and_then (launch_in site peer request mapped)) places.host_at
    ∙ ap (option_map (launch_at site peer request mapped places.host)) places.script_at
    ∙ (λ i. Some (launch_at site peer request mapped (sym host i) (sym script i)))
    ∙ ap (λ (l : Launch). Some l) (sym is))
    c.launch_at.ensures
