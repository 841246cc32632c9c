-- The frames that an entry sent, one after the other.
use Rattle.std.proofs.Common.{◌≡◌, ℕ, Bool, true, false, List, [], ◌∷◌, ◌++◌, Option, Some, None, refl, sym, ap, subst, ◌∙◌}
use Rattle.std.specs.Prelude.{codes, if◌then◌else◌}
use Rattle.std.proofs.lemmas.Option.{cond_some}
use Rattle.annex_base.specs.OptionSteps.{◌>>=◌}
use Rattle.run_data.specs.declared.run.RepoView.{RepoView}
use Rattle.run_data.specs.declared.entry.FrameView.{FrameView}
use Rattle.journal_reading.specs.Lines.{frame_form, may_follow}
use Rattle.journal_reading.specs.Reading.{sent_by, sent_in}
use Rattle.journal_reader.specs.Steps.{last_of, sent_behind, next_sent}
use Rattle.journal_reader.proofs.PushLemmas.{last_push, before_rest, before_more, before_end}

abbrev Sent : Type 0
Sent = List FrameView × List (List ℕ)

-- a frame before others
abbrev frame_first : FrameView → Sent → Sent
frame_first f x = (f ∷ x.0, x.1)

abbrev more_sent : List RepoView → FrameView × List (List ℕ) → Sent
more_sent repos x = frame_first x.0 (sent_in repos (Some x.0) x.1)

sent_on : (repos : List RepoView) (last : Option FrameView) (lines : List (List ℕ)) (x : FrameView × List (List ℕ)) → next_sent repos last lines ≡ Some x → sent_in repos last lines ≡ more_sent repos x
sent_on repos last [] x e = absurd cc
sent_on repos last (line ∷ lines) x e = go ((frame_form repos (codes "> ")).read line) e
  where
    go : (o : Option FrameView) → (o >>= sent_behind last lines) ≡ Some x → sent_by last o line lines (λ f. sent_in repos f lines) ≡ more_sent repos x
    go None e = absurd cc
    go (Some f) e =
        let h = cond_some (may_follow last f) (f, lines) x e in
        subst (λ y. sent_by last (Some f) line lines (λ f. sent_in repos f lines) ≡ more_sent repos y) h.1 (rw h.0 refl)

none_cond : {A : Type 0} (b : Bool) (x : A) → (if b then Some x else None) ≡ None → b ≡ false
none_cond true x e = absurd cc
none_cond false x e = refl

sent_over : (repos : List RepoView) (last : Option FrameView) (lines : List (List ℕ)) → next_sent repos last lines ≡ None → sent_in repos last lines ≡ ([], lines)
sent_over repos last [] e = refl
sent_over repos last (line ∷ lines) e = go ((frame_form repos (codes "> ")).read line) e
  where
    go : (o : Option FrameView) → (o >>= sent_behind last lines) ≡ None → sent_by last o line lines (λ f. sent_in repos f lines) ≡ ([], line ∷ lines)
    go None e = refl
    go (Some f) e = rw (none_cond (may_follow last f) (f, lines) e) refl

-- ---- frame by frame

pub sent_more : (repos : List RepoView) (frames : List FrameView) (whole : Sent) (lines : List (List ℕ)) (x : FrameView × List (List ℕ))
    → whole ≡ before_rest frames (sent_in repos (last_of frames) lines) → next_sent repos (last_of frames) lines ≡ Some x
    → whole ≡ before_rest (frames ++ x.0 ∷ []) (sent_in repos (last_of (frames ++ x.0 ∷ [])) x.1)
sent_more repos frames whole lines x so_far is =
    so_far ∙ ap (before_rest frames) (sent_on repos (last_of frames) lines x is) ∙ before_more frames x.0 (sent_in repos (Some x.0) x.1)
    ∙ ap (λ o. before_rest (frames ++ x.0 ∷ []) (sent_in repos o x.1)) (sym (last_push frames x.0))

pub sent_end : (repos : List RepoView) (frames : List FrameView) (whole : Sent) (lines : List (List ℕ))
    → whole ≡ before_rest frames (sent_in repos (last_of frames) lines) → next_sent repos (last_of frames) lines ≡ None → whole ≡ (frames, lines)
sent_end repos frames whole lines so_far none =
    so_far ∙ ap (before_rest frames) (sent_over repos (last_of frames) lines none) ∙ before_end frames lines
