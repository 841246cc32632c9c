-- The running jobs as data, and the works of a state that they are (own).
use Rattle.std.specs.Prelude.{◌<◌, map, reverse, vec_len, vec_capacity}
use Rattle.node_model.specs.Jobs as jobs
use Rattle.state_jobs.specs.Phases.{heard_of, part_of, phase_of}
use Rattle.state_jobs.specs.declared.work.Work.{Work}

abbrev pub work_of : Work → jobs.Work
work_of w = record {
  number = w.number;
  slot = w.slot;
  what = w.what;
  part = part_of w.part;
  phase = phase_of w.phase;
  fills = w.fills;
  version = w.version;
  heard = map (λ h. (h.0, heard_of h.1)) (reverse w.heard.items);
  causes = w.causes.items;
}

-- there is room for what it hears next, and for why its next source gives nothing
pub record HasRoom (w : Work) : Type 0 where
  pub heard : vec_len w.heard < vec_capacity w.heard
  pub causes : vec_len w.causes < vec_capacity w.causes
