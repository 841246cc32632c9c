-- What a session says and leaves behind, in the words of the step (own).
use Rattle.std.specs.Prelude.{◌≡◌, ℕ, Bool, true, false, List, [], ◌∷◌, length, Option, Some, None, is_some}
use Rattle.std.specs.Option.{option_map}
use Rattle.annex_base.specs.declared.kinds.Call.{Call}
use Rattle.run_data.specs.declared.entry.By.{By}
use Rattle.run_data.specs.declared.entry.By.TheVariants.{Peer}
use Rattle.run_data.specs.declared.entry.EntryKind.{EntryKind}
use Rattle.run_data.specs.declared.entry.EntryKind.TheVariants.{Gain, Gone}
use Rattle.run_data.specs.declared.entry.FrameText.{FrameText}
use Rattle.run_data.specs.declared.entry.FrameText.TheVariants.{Closing, Line}
use Rattle.p2p_wire.specs.declared.message.Message.{Message}
use Rattle.p2p_wire.specs.Messages.{text_of}
use Rattle.object_store.specs.Stores.{Contents, Parts, contents_after_commit}
use Rattle.node_model.specs.Rows.{content_after, present_after}
use Rattle.node_model.specs.Ends.{server_end}
use Rattle.node_model.specs.Look.{failed_in}
use Rattle.node_model.specs.SessionStep.{Here, Reply}
use Rattle.content_lock.specs.Rows.{Rows, bar_at, is_filling}
use Rattle.content_lock.specs.Stored.{without_content}
use Rattle.session_state.specs.declared.step.Step.{Step}
use Rattle.session_state.specs.declared.place.Place.{Place}
use Rattle.session_state.specs.declared.place.Scene.{Scene}

abbrev pub closes : Bool → List FrameText
closes true = Closing ∷ []
closes false = []

abbrev pub says : Option Message → List FrameText → List FrameText
says None rest = rest
says (Some m) rest = Line (text_of m) ∷ rest

-- what a reply says, apart from the store calls that it makes
abbrev pub as_said : Reply → Reply
as_said x = record x { calls = [] }

-- the reply that a step is, apart from those
abbrev pub reply_of : Step → Reply
reply_of step = record { kind = step.kind; says = says step.reply (closes step.close); calls = [] }

abbrev pub owner_at : Place → By
owner_at place = Peer place.peer place.slot

abbrev pub owner_of : Scene → By
owner_of x = owner_at x.place

-- the sizes of contents
abbrev pub size_in : Contents → List ℕ → Option ℕ
size_in contents key = option_map length (contents key)

abbrev pub is_in : Contents → List ℕ → Bool
is_in contents key = is_some (contents key)

-- what a session reads, of these rows and contents
abbrev pub here_of : Scene → Rows → Contents → Option Call → ℕ → Bool → Here
here_of x rows contents fails part right =
    record {
      at = server_end x.place.peer x.place.slot;
      id = x.place.id;
      version = x.place.version;
      locks = x.place.locks;
      now = x.clock;
      number = x.number;
      present = is_in contents;
      bar = bar_at rows;
      content = size_in contents;
      holds = rows.holds;
      filled = is_filling rows;
      fails = fails;
      part = part;
      right = right;
    }

-- the store has the contents that an entry of this kind leaves
pub record Changes (known : Option Contents) (was : Contents) (kind : EntryKind) : Type 0 where
  pub contents : Contents
  pub told : known ≡ Some contents
  pub present : (key : List ℕ) → is_in contents key ≡ present_after key (is_in was key) kind
  pub sizes : (key : List ℕ) → size_in contents key ≡ content_after key (size_in was key) kind

-- the contents after an entry of this kind: those without one that is gone, or with one that its part became
abbrev pub contents_after : Option Contents → Option Parts → EntryKind → Option Contents
contents_after known parts (Gone by key) = without_content known key
contents_after known parts (Gain by size key) = contents_after_commit known parts key
contents_after known parts kind = known

-- an entry of this kind leaves the contents
abbrev pub LeavesContents : EntryKind → Type 0
LeavesContents kind = (known : Option Contents) (parts : Option Parts) → contents_after known parts kind ≡ known

-- a step over rows and contents: it answers so, and its entry changes the contents
pub record AnswersAsAsked (x : Scene) (rows : Rows) (contents : Contents) (known : Option Contents) (part : ℕ) (right : Bool) (asked : Here → Reply) (step : Step) : Type 0 where
  pub answers : reply_of step ≡ as_said (asked (here_of x rows contents (failed_in step.kind) part right))
  pub changes : Changes known contents step.kind
