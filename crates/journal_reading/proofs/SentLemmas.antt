-- The frames that an entry sent are read as they are written.
use Rattle.std.proofs.Common.{◌≡◌, inl, inr, ℕ, List, [], ◌∷◌, ◌++◌, map, Option, Some, None, refl, ap, ◌∙◌}
use Rattle.std.specs.Prelude.{codes}
use Rattle.std.proofs.lemmas.Bool.{cases_Bool}
use Rattle.run_data.specs.declared.run.RepoView.{RepoView}
use Rattle.run_data.specs.declared.entry.FrameView.{FrameView}
use Rattle.journal_text.specs.Journal.{frame_text}
use Rattle.journal_reading.specs.Lines.{frame_form, may_follow}
use Rattle.journal_reading.specs.Reading.{sent_by, sent_in}
use Rattle.journal_reading.specs.WellFormed.{AreSent}
use Rattle.journal_reading.proofs.FieldLemmas.{AreNamed}
use Rattle.journal_reading.proofs.FrameLemmas.{is_frame_form}

abbrev pub sent_line : List RepoView → FrameView → List ℕ
sent_line repos f = codes "> " ++ frame_text repos f

-- no frame that was sent stands in the first of these lines
abbrev pub NoneSent : List RepoView → List (List ℕ) → Type 0
NoneSent repos [] = Unit {0}
NoneSent repos (line ∷ lines) = (frame_form repos (codes "> ")).read line ≡ None

none_there : (repos : List RepoView) (last : Option FrameView) (rest : List (List ℕ)) → NoneSent repos rest → sent_in repos last rest ≡ ([], rest)
none_there repos last [] none = refl
none_there repos last (line ∷ lines) none = rw none refl

pub sent_there : (repos : List RepoView) → AreNamed repos → (fs : List FrameView) (last : Option FrameView) (rest : List (List ℕ)) → AreSent repos last fs → NoneSent repos rest
    → sent_in repos last (map (sent_line repos) fs ++ rest) ≡ (fs, rest)
sent_there repos named [] last rest ok none = none_there repos last rest none
sent_there repos named (f ∷ fs) last rest ok none =
    rw ((is_frame_form repos named (codes "> ")).there f ok.0, ok.1, sent_there repos named fs (Some f) rest ok.2 none) refl

pub record SentBack (repos : List RepoView) (last : Option FrameView) (all : List (List ℕ)) (x : List FrameView × List (List ℕ)) : Type 0 where
  pub spelled : all ≡ map (sent_line repos) x.0 ++ x.1
  pub ok : AreSent repos last x.0

nothing_back : (repos : List RepoView) (last : Option FrameView) (all : List (List ℕ)) → SentBack repos last all ([], all)
nothing_back repos last all = record { spelled = refl; ok = tt }

by_back : (repos : List RepoView) → AreNamed repos → (last : Option FrameView) (line : List ℕ) (lines : List (List ℕ)) → ((f : FrameView) → SentBack repos (Some f) lines (sent_in repos (Some f) lines))
    → (o : Option FrameView) → (frame_form repos (codes "> ")).read line ≡ o → SentBack repos last (line ∷ lines) (sent_by last o line lines (λ f. sent_in repos f lines))
by_back repos named last line lines more None is = nothing_back repos last (line ∷ lines)
by_back repos named last line lines more (Some f) is = elim (cases_Bool (may_follow last f)) [
  | inl follows ↦
      let w = (is_frame_form repos named (codes "> ")).back line f is in
      let v = more f in
      rw follows (record { spelled = ap (λ (l : List ℕ). l ∷ lines) w.0 ∙ ap (λ (l : List (List ℕ)). sent_line repos f ∷ l) v.spelled; ok = (w.1, follows, v.ok) })
  | inr out ↦ rw out (nothing_back repos last (line ∷ lines))
]

pub sent_back : (repos : List RepoView) → AreNamed repos → (last : Option FrameView) (all : List (List ℕ)) → SentBack repos last all (sent_in repos last all)
sent_back repos named last [] = record { spelled = refl; ok = tt }
sent_back repos named last (line ∷ lines) = by_back repos named last line lines (λ f. sent_back repos named (Some f) lines) ((frame_form repos (codes "> ")).read line) refl
