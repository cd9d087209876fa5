-- The fault of the settings, behind any map.
use Rattle.map_loading.proofs.loading.load_profile.Goals as goal

pub returns-in-Err-clause-fault : goal.returns-in-Err-clause-fault
returns-in-Err-clause-fault c = c.in-Err.ensures.fault c.args.objects.now
