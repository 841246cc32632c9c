-- Where there is room for the frames of a step, and what the step of a job makes (own).
use Rattle.std.specs.Prelude.{◌≡◌, ◌⊎◌, Bool, true, false, fold, List, [], ◌∷◌, ◌++◌, Option, Some, None}
use Rattle.annex_base.specs.declared.kinds.Call.{Call}
use Rattle.annex_base.specs.declared.kinds.Call.TheVariants as calls
use Rattle.run_data.specs.declared.entry.By.TheVariants.{Job as by_job}
use Rattle.run_data.specs.declared.entry.EntryKind.{EntryKind}
use Rattle.run_data.specs.declared.entry.EntryKind.TheVariants.{Gain, Share, Bar, Order, Gone, Talk, Fault, End as ends_job}
use Rattle.run_data.specs.declared.entry.FrameView.{FrameView}
use Rattle.node_model.specs.Ends.{End, EndName, end_sends, frames, is_opening, sent_at, taken_at}
use Rattle.node_model.specs.Look.{Effect}
use Rattle.node_model.specs.Sessions.{is_closing}

-- ---- room

-- the end at which a frame is sent
abbrev pub end_of : FrameView → EndName
end_of f = record { peer = f.peer; slot = f.slot; client = f.up }

-- how an end stands when it has sent what is its of these
abbrev pub stood_at : (EndName → End) → List FrameView → EndName → End
stood_at ends before a = fold (λ c g. end_sends c g.body) (ends a) (sent_at a before)

-- a Close at an end that is open then, or the first frame that is sent at an end with room
abbrev pub MaySend : (EndName → End) → (EndName → Bool) → List FrameView → FrameView → Type 0
MaySend ends room before f =
    ((is_closing f.body ≡ true) × ((stood_at ends before (end_of f)).opened ≡ true))
    ⊎ ((is_closing f.body ≡ false) × (room (end_of f) ≡ true) × (sent_at (end_of f) before ≡ []))

-- a frame that is sent behind these has its place: it is what its end sends next, and may be sent there
abbrev pub HasPlace : (EndName → End) → (EndName → Bool) → List FrameView → FrameView → Type 0
HasPlace ends room before f = (frames (end_of f) (stood_at ends before (end_of f)) (f.body ∷ []) ≡ f ∷ []) × MaySend ends room before f

-- each of the frames has its place behind those before it
abbrev pub SendsWell : (EndName → End) → (EndName → Bool) → List FrameView → Type 0
SendsWell ends room sent = (xs ys : List FrameView) (f : FrameView) → sent ≡ xs ++ f ∷ ys → HasPlace ends room xs f

-- ---- what a job makes

-- the store calls of a job: all but those that go over the holds, write a file or read one
abbrev pub IsCallOfJob : Call → Type 0
IsCallOfJob calls.Has = Unit {0}
IsCallOfJob calls.Size = Unit {0}
IsCallOfJob calls.Read = Unit {0}
IsCallOfJob calls.PartSize = Unit {0}
IsCallOfJob calls.ReadPart = Unit {0}
IsCallOfJob calls.Append = Unit {0}
IsCallOfJob calls.Commit = Unit {0}
IsCallOfJob calls.DropPart = Unit {0}
IsCallOfJob calls.Remove = Unit {0}
IsCallOfJob calls.Hold = Unit {0}
IsCallOfJob calls.Unhold = Unit {0}
IsCallOfJob _ = ⊥

-- the entries of jobs
abbrev pub IsOfJob : EntryKind → Type 0
IsOfJob (Gain (by_job job) size key) = Unit {0}
IsOfJob (Share hold end (by_job job) key) = Unit {0}
IsOfJob (Bar job need key) = Unit {0}
IsOfJob (Order job target deadline need key) = Unit {0}
IsOfJob (Gone (by_job job) key) = Unit {0}
IsOfJob (Talk (Some job)) = Unit {0}
IsOfJob (Fault call (by_job job)) = IsCallOfJob call
IsOfJob (ends_job job outcome) = Unit {0}
IsOfJob _ = ⊥

-- no opening is taken
abbrev pub TakesNoOpening : Option FrameView → Type 0
TakesNoOpening None = Unit {0}
TakesNoOpening (Some f) = is_opening f.body ≡ false

-- such an entry adds no line, takes no opening, and takes and sends frames only at ends whose client the repository is
pub record IsOwnEntry (m : Effect) : Type 0 where
  pub kind : IsOfJob m.kind
  pub lines : m.lines ≡ []
  pub opening : TakesNoOpening m.taken
  pub clients : (a : EndName) → a.client ≡ false → (taken_at a m.taken ≡ None) × (sent_at a m.sent ≡ [])
