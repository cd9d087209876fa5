-- What the map is read as decides what is loaded.
use Rattle.std.proofs.Common.{◌≡◌, List, ap, sym, ◌∙◌, subst, Result, Ok}
use Rattle.opl_read.specs.Objects.{opl_objects}
use Rattle.opl_read.specs.declared.line_faults.LineFault.{LineFault}
use Rattle.road_base.specs.declared.osm_objects.Object.{Object}
use Rattle.way_profile.specs.Settings.{settings_of}
use Rattle.map_loading.specs.Loading.{load_of, load_from}
use Rattle.map_loading.specs.LoadCause.{IsLoadFault}
use Rattle.map_loading.proofs.loading.load.Goals as goal

pub returns-in-Ok-load_profile-clause-loaded : goal.returns-in-Ok-load_profile-clause-loaded
unfolding load_of
returns-in-Ok-load_profile-clause-loaded c =
    let e : ◌≡◌ {A = Result (List Object) LineFault} (Ok c.as_slice.result.now) (opl_objects c.args.map.items) = ap Ok c.as_slice.ensures.value ∙ sym c.in-Ok.ensures.objects in
    subst (λ (r : Result (List Object) LineFault). load_from r (settings_of c.args.settings.now) ≡ Ok c.in-Ok-load_profile.network) e c.in-Ok-load_profile.ensures.network

pub returns-in-Ok-clause-fault : goal.returns-in-Ok-clause-fault
unfolding load_of
returns-in-Ok-clause-fault c =
    let e : ◌≡◌ {A = Result (List Object) LineFault} (Ok c.as_slice.result.now) (opl_objects c.args.map.items) = ap Ok c.as_slice.ensures.value ∙ sym c.in-Ok.ensures.objects in
    subst (λ (r : Result (List Object) LineFault). IsLoadFault (load_from r (settings_of c.args.settings.now)) c.in-Err-load_profile.fault) e c.in-Err-load_profile.ensures.fault

pub returns-clause-fault : goal.returns-clause-fault
unfolding load_of
returns-clause-fault c = c.in-Err.ensures.fault (settings_of c.args.settings.now)
