-- The words that the jobs of a repository were told, as its node keeps them, are those that the past tells (own).
use Rattle.std.specs.Prelude.{◌≡◌, ◌⊎◌, ℕ, true, List, ◌∷◌, Option}
use Rattle.std.specs.Option.{option_and_then}
use Rattle.annex_base.specs.Lists.{Member}
use Rattle.annex_base.specs.declared.kinds.Word.{Word}
use Rattle.link_ring.specs.declared.frame.Frame.{Frame}
use Rattle.link_ring.specs.Ends.{EndView, next_frame}
use Rattle.run_data.specs.declared.entry.Entry.{Entry}
use Rattle.run_data.specs.declared.entry.FrameView.{FrameView}
use Rattle.run_model.specs.States.{works}
use Rattle.run_model.specs.Words.{word_told}
use Rattle.node_model.specs.Ends.{EndName}
use Rattle.node_model.specs.Jobs.{Heard, Work, is_ordered, target_of}
use Rattle.run_laws.specs.Jobs.{TakesAnswer}
use Rattle.node_ends.specs.Ends.{link_at}
use Rattle.node_ends.specs.Joined.{end_with}
use Rattle.driver_model.specs.WordsRead.{ReadsWord}

-- of each running job of r and each repository whose word the job's end reads, the word is the one that the past tells
abbrev pub HeardSo : List Entry → ℕ → (ℕ → ℕ → Option Word) → Type 0
HeardSo past r words = (w : Work) (c : ℕ) → Member w (works past r) → ReadsWord r w c → words w.number c ≡ word_told past r w.number c

-- the word beside the first frame at hand that isn't old
abbrev pub word_at : List EndView → EndName → Option Word
word_at links a = option_and_then (λ (x : Frame). x.word) (option_and_then next_frame (link_at links a))

-- the job w, which is v afterwards, has heard one thing more, of c; or c is the target whose answer it awaited
abbrev pub HearsOf : ℕ → Work → Work → ℕ → Type 0
HearsOf r w v c = ((h : Heard) × (v.heard ≡ (c, h) ∷ w.heard)) ⊎ ((is_ordered w.phase ≡ true) × (c ≡ target_of r w))

-- The words that the jobs of r had before the entry, whose frames were at hand at these ends, and those that they have now: where a
-- job took an answer whose word is kept, that is the word beside the frame; and of whatever a job hears nothing, it has the word that
-- it had.
pub record WordsGoOn (links : List EndView) (past : List Entry) (r : ℕ) (e : Entry) (was now : ℕ → ℕ → Option Word) : Type 0 where
  pub kept : (w v : Work) (f : FrameView) → Member w (works past r) → Member v (works (e ∷ past) r) → v.number ≡ w.number → TakesAnswer w e f → now w.number f.peer ≡ word_at links (end_with f.peer f.slot true)
  pub rest : (w v : Work) (c : ℕ) → Member w (works past r) → Member v (works (e ∷ past) r) → v.number ≡ w.number → HearsOf r w v c ⊎ (now w.number c ≡ was w.number c)

-- of each job that ran before, the words are as they were
abbrev pub SameWords : List Entry → ℕ → (ℕ → ℕ → Option Word) → (ℕ → ℕ → Option Word) → Type 0
SameWords past r was now = (w : Work) (c : ℕ) → Member w (works past r) → now w.number c ≡ was w.number c
