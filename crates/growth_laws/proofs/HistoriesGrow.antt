-- A repository's history stays its own part as its set-up gets the paths of a new job.
use Rattle.std.proofs.Common.{◌≡◌, ℕ, ◌+◌, ◌≤◌, Bool, true, false, List, [], ◌∷◌, Option, Some, None, ◌⊎◌, inl, inr, ◌∙◌, arith}
use Rattle.std.specs.Prelude.{◌&&◌, if◌then◌else◌}
use Rattle.annex_base.specs.declared.kinds.Word.{Word}
use Rattle.run_data.specs.declared.entry.By.TheVariants.{Script}
use Rattle.run_data.specs.declared.entry.Entry.{Entry}
use Rattle.run_data.specs.declared.entry.EntryKind.{EntryKind}
use Rattle.run_data.specs.declared.entry.EntryKind.TheVariants.{Begin, Gain, Log, Compact, Close, Crash, Fault}
use Rattle.run_data.specs.declared.entry.FrameView.{FrameView}
use Rattle.run_data.specs.declared.job.JobKind.{JobKind}
use Rattle.run_model.specs.Past.{begun_count, is_of}
use Rattle.node_model.specs.Slots.{is_begin}
use Rattle.run_model.specs.Frames.{Way}
use Rattle.node_model.specs.SetUp.{SetUp}
use Rattle.run_model.specs.States.{state_of}
use Rattle.node_model.specs.AnyTime.{IsPeer, MayCome}
use Rattle.run_model.specs.Run.{ComesAnyTime, IsStep, OwnPart, OwnRun}
use Rattle.growth_laws.specs.Merged.{IsHistory, Letter}
use Rattle.growth_laws.proofs.PathsRead.{step_paths, with_paths}
use Rattle.step_facts.proofs.WorkNumbers.{number_begun}

-- ---- other paths

-- the paths are the same for the jobs that have begun
abbrev pub SamePaths : SetUp → (ℕ → List (List ℕ)) → List Entry → Type 0
SamePaths s p past = (j : ℕ) → j ≤ begun_count past s.number → p j ≡ s.paths j

module _ (s : SetUp) (p : ℕ → List (List ℕ)) where
  peer_paths : (kind : JobKind) (peer : Option ℕ) → IsPeer s kind peer → IsPeer (with_paths s p) kind peer
  peer_paths kind None h = h
  peer_paths kind (Some peer) h = h

  come_paths : (past : List Entry) (lines : List (List ℕ)) (sent : List FrameView) (kind : EntryKind) → MayCome s (state_of s past) lines sent kind → MayCome (with_paths s p) (state_of (with_paths s p) past) lines sent kind
  come_paths past lines sent (Begin job what) h = let m = h.0 in (record { number_is = m.number_is; slot_free = m.slot_free; peer = peer_paths what.kind what.peer m.peer; valid = m.valid }, h.1, h.2)
  come_paths past lines sent (Gain Script size key) h = let m = h.0 in (record { absent = m.absent; unfilled = m.unfilled; fits = m.fits; small = m.small }, h.1, h.2)
  come_paths past lines sent (Log file) h = let m = h.0 in (record { path = m.path; known = m.known; set = m.set; new = m.new }, h.1)
  come_paths past lines sent (Compact file) h = let m = h.0 in (record { shrinks = m.shrinks }, h.1, h.2)
  come_paths past lines sent (Fault call Script) h = h
  come_paths past lines sent (Close peer slot client) h = h
  come_paths past lines sent (Crash clock) h = h
  come_paths past lines sent kind h = h

  pub part_paths : (past : List Entry) (words : ℕ → Option Word) (e : Entry) → OwnRun s past → SamePaths s p past → OwnPart s past words e → OwnPart (with_paths s p) past words e
  part_paths past words e run same part = record { known = part.known; does = does part.does }
    where
      does : IsStep s past words e ⊎ ComesAnyTime s past e → IsStep (with_paths s p) past words e ⊎ ComesAnyTime (with_paths s p) past e
      does (inl x) = inl (record {
        look = x.look;
        made = x.made;
        makes = step_paths s (state_of s past) x.look p (λ w m. same w.number (number_begun s past run w m)) ∙ x.makes;
        is = x.is;
        words_are = x.words_are;
        part_small = x.part_small;
      })
      does (inr x) = inr (record { may = come_paths past e.lines e.sent e.kind x.may; takes_none = x.takes_none })

  pub same_before : (e : Entry) (past : List Entry) → SamePaths s p (e ∷ past) → SamePaths s p past
  same_before e past same j l = same j (more (is_of s.number e && is_begin e.kind))
    where
      more : (b : Bool) → j ≤ (if b then begun_count past s.number + 1 else begun_count past s.number)
      more true = omega (arith, l)
      more false = l

  kept_run : (got : Way → List Letter) (past : List Entry) → IsHistory s got past → OwnRun s past
  kept_run got [] h = tt
  kept_run got (e ∷ past) h = let x = h.0 in ((λ is. (x.words, x.does)), kept_run got past h.1)

  pub kept_paths : (got : Way → List Letter) (past : List Entry) → SamePaths s p past → IsHistory s got past → IsHistory (with_paths s p) got past
  kept_paths got [] same h = tt
  kept_paths got (e ∷ past) same h =
      let before = same_before e past same in
      let x = h.0 in
      (record { own = x.own; words = x.words; does = part_paths past x.words e (kept_run got past h.1) before x.does; takes = x.takes; tells = x.tells }, kept_paths got past before h.1)
