use Rattle.std.proofs.Common.{◌≡◌, ◌<◌, List, length, Some, sym, ap, ◌∙◌, subst}
use Rattle.std.specs.Prelude.{Ok, slice_get}
use Rattle.std.proofs.lemmas.Option.{slice_get_within}
use Rattle.host_base.specs.declared.site.VHost.{VHost}
use Rattle.host_base.specs.declared.site.Script.{Script}
use Rattle.script_map.specs.Answers.{IsAnswer}
use Rattle.meta_variables.specs.Gateway.{gateway_mapped, launch_script, launch_host, launch_mapped, gateway_launch_of}
use Rattle.meta_variables.proofs.PlaceLaws.{gateway_places, read_at}
use Rattle.meta_variables.proofs.gateway.gateway_launch.Goals as goal

pub bounds-as_slice-mapped : goal.bounds-as_slice-mapped
bounds-as_slice-mapped c =
    let hosts = c.args.site.now.hosts in
    let mapped = c.in_ok-mapped.mapped in
    let places = gateway_places hosts c.as_slice.result.now mapped c.in_ok-mapped.ensures in
    subst (λ (l : List VHost). mapped.host < length l) (sym c.as_slice-2.ensures) (slice_get_within hosts mapped.host places.host places.host_at)

pub bounds-as_slice-mapped-2 : goal.bounds-as_slice-mapped-2
bounds-as_slice-mapped-2 c =
    let hosts = c.args.site.now.hosts in
    let mapped = c.in_ok-mapped.mapped in
    let places = gateway_places hosts c.as_slice.result.now mapped c.in_ok-mapped.ensures in
    let same = read_at c.as_slice-2.result.now mapped.host places.host c.index-as_slice-mapped.result
    (ap (λ (l : List VHost). slice_get l mapped.host) c.as_slice-2.ensures ∙ places.host_at) c.index-as_slice-mapped.is in
    subst (λ (l : List Script). mapped.index < length l) (sym (c.as_slice-3.ensures ∙ ap (λ (h : VHost). h.scripts) same))
    (slice_get_within places.host.scripts mapped.index places.script places.script_at)

pub returns : goal.returns
returns c =
    let hosts = c.args.site.now.hosts in
    let pairs = c.args.pairs.now in
    let mapped = c.in_ok-mapped.mapped in
    let places = gateway_places hosts c.as_slice.result.now mapped c.in_ok-mapped.ensures in
    let host = read_at c.as_slice-2.result.now mapped.host places.host c.index-as_slice-mapped.result
    (ap (λ (l : List VHost). slice_get l mapped.host) c.as_slice-2.ensures ∙ places.host_at) c.index-as_slice-mapped.is in
    let script = read_at c.as_slice-3.result.now mapped.index places.script c.index-as_slice-mapped-2.result
    (ap (λ (l : List Script). slice_get l mapped.index) (c.as_slice-3.ensures ∙ ap (λ (h : VHost). h.scripts) host) ∙ places.script_at) c.index-as_slice-mapped-2.is in
    let told : gateway_mapped hosts pairs ≡ Ok mapped = ap (gateway_mapped hosts) (sym c.as_slice.ensures) ∙ c.in_ok-mapped.ensures in
    let is : gateway_launch_of hosts pairs ≡ launch_script c.as_slice-4.result.now mapped c.index-as_slice-mapped.result (Some c.index-as_slice-mapped-2.result) =
    ap (launch_mapped hosts pairs) told
    ∙ ap (launch_host pairs mapped) places.host_at
    ∙ ap (launch_script pairs mapped places.host) places.script_at
    ∙ (λ i. launch_script (sym c.as_slice-4.ensures i) mapped (sym host i) (Some (sym script i))) in
    subst (λ answer. IsAnswer answer c.launch_script.result) (sym is) c.launch_script.ensures
