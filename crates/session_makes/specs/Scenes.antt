-- What a session reads, as data, and its reply beside what an entry tells; for private contracts.
use Rattle.std.specs.Prelude.{ℕ, Bool, false, ◌&&◌, List, Option, Some, None, is_some}
use Rattle.annex_base.specs.declared.kinds.Call.{Call}
use Rattle.run_data.specs.declared.entry.By.TheVariants.{Peer}
use Rattle.run_data.specs.declared.entry.EntryKind.TheVariants.{Fault}
use Rattle.run_data.specs.declared.entry.FrameText.{FrameText}
use Rattle.node_model.specs.Ends.{frames}
use Rattle.node_model.specs.SessionStep.{Here, Reply}
use Rattle.state_rows.specs.Rows.{bar_of, holds_of, size_of}
use Rattle.step_judging.specs.Same.{same_frames, same_kind}
use Rattle.step_judging.specs.Telling.{failed_call, first_line, matches_told, part_told}
use Rattle.step_effects.specs.Sendings.{name_of}
use Rattle.session_makes.specs.declared.scene.Scene.{Scene}

-- what the session reads, where these keys are being filled
abbrev pub here_in : Scene → (List ℕ → Bool) → Here
here_in x filled =
    record {
      at = name_of x.at;
      id = x.id;
      version = x.version;
      locks = x.locks;
      now = x.clock;
      number = x.number;
      present = λ key. is_some (size_of x.rows.now key);
      bar = λ key. bar_of x.rows.now key;
      content = λ key. size_of x.rows.now key;
      holds = holds_of x.rows.now;
      filled = filled;
      fails = failed_call x.told.now.kind;
      part = part_told x.told.now.kind (first_line x.told.now.sent);
      right = matches_told x.told.now.kind;
    }

-- the entry sends these
abbrev pub is_said : Scene → List FrameText → Bool
is_said x says = same_frames (frames (name_of x.at) x.at.was says) x.told.now.sent

-- the entry is of the reply's kind, and sends what the reply says
abbrev pub is_reply : Scene → Reply → Bool
is_reply x r = same_kind r.kind x.told.now.kind && is_said x r.says

abbrev pub is_reply_if : Scene → Option Reply → Bool
is_reply_if x None = false
is_reply_if x (Some r) = is_reply x r

-- the entry is the fault of the call that fails, where one does, and sends what is said then; or else it is the reply
abbrev pub is_fault_or : Scene → Option Call → Bool → Bool → Bool
is_fault_or x None said good = good
is_fault_or x (Some call) said good = same_kind (Fault call (Peer x.at.peer x.at.slot)) x.told.now.kind && said
