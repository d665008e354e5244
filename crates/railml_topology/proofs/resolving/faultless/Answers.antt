use Rattle.std.proofs.Common.{◌≤◌, length}
use Rattle.std.proofs.lemmas.Result.{IfOk-weaker}
use Rattle.plan_core.specs.declared.limits.TheConstants.{MAX_TRACKS}
use Rattle.plan_core.specs.Topology.{IsResolved}
use Rattle.railml_topology.specs.Resolved.{IsTopologyOf}
use Rattle.railml_topology.proofs.SoundLemmas.{sound}
use Rattle.railml_topology.proofs.ResolvedLemmas.{few_tracks, resolved}
use Rattle.railml_topology.proofs.resolving.faultless.Goals as goal

pub topology_of-requires-clause-sound : goal.topology_of-requires-clause-sound
topology_of-requires-clause-sound c = sound c.args.rows.now c.requires.formed c.requires.faultless

pub returns-clause-resolved : goal.returns-clause-resolved
returns-clause-resolved c = IfOk-weaker c.topology_of.result (λ t. IsTopologyOf c.args.rows.now t) (λ t. IsResolved t)
    (λ t h. resolved c.args.rows.now t (sound c.args.rows.now c.requires.formed c.requires.faultless) h) c.topology_of.ensures

pub returns-clause-few : goal.returns-clause-few
returns-clause-few c = IfOk-weaker c.topology_of.result (λ t. IsTopologyOf c.args.rows.now t) (λ t. length t.tracks ≤ MAX_TRACKS)
    (λ t h. few_tracks c.args.rows.now t (sound c.args.rows.now c.requires.formed c.requires.faultless) h) c.topology_of.ensures
