-- The word beside an answer that a job took from a repository: that of the sender of the answer to what it last awaited of it.
use Rattle.std.proofs.Common.{◌≡◌, ℕ, Bool, true, false, List, [], ◌∷◌, Some, inl, inr, refl, sym, ap, ◌∙◌}
use Rattle.std.specs.Prelude.{if◌then◌else◌, ◌==◌, ◌&&◌, find, slice_get}
use Rattle.std.proofs.lemmas.Bool.{eqb-true}
use Rattle.annex_base.specs.Lists.{Member}
use Rattle.annex_base.proofs.Lists.{find_member}
use Rattle.annex_base.proofs.Conditions.{eqb_refl}
use Rattle.run_data.specs.declared.entry.Entry.{Entry}
use Rattle.run_data.specs.declared.entry.FrameView.{FrameView}
use Rattle.run_model.specs.Past.{is_of}
use Rattle.node_model.specs.Rows.{option_is}
use Rattle.node_model.specs.Slots.{job_of}
use Rattle.run_model.specs.Frames.{frames_sent, taken_count, way_of}
use Rattle.node_model.specs.SetUp.{SetUp}
use Rattle.run_model.specs.Words.{awaits_of, awaits_word, word_of, word_taken, word_told}
use Rattle.node_model.specs.Jobs.{Work}
use Rattle.run_model.specs.States.{works}
use Rattle.run_model.specs.Run.{OwnRun}
use Rattle.step_facts.proofs.WorkNumbers.{same_number_same_work}

-- ---- which work has a number

find_some : (ws : List Work) (w : Work) → Member w ws → (v : Work) × (find (λ x. x.number == w.number) ws ≡ Some v)
find_some [] w m = absurd m
find_some (x ∷ ws) w m = go (λ n. find_some ws w n) (x.number == w.number) refl m
  where
    go : (Member w ws → (v : Work) × (find (λ x. x.number == w.number) ws ≡ Some v)) → (b : Bool) → (x.number == w.number) ≡ b → Member w (x ∷ ws) → (v : Work) × (find (λ y. y.number == w.number) (x ∷ ws) ≡ Some v)
    go more true is m = (x, rw is refl)
    go more false is (inl same) = absurd (let both : true ≡ false = sym (eqb_refl w.number) ∙ ap (λ (y : Work). y.number == w.number) same ∙ is in cc)
    go more false is (inr n) = let z = more n in (z.0, rw is z.1)

pub found_work : (s : SetUp) (past : List Entry) → OwnRun s past → (w : Work) → Member w (works past s.number) → find (λ x. x.number == w.number) (works past s.number) ≡ Some w
found_work s past run w m =
    let z = find_some (works past s.number) w m in
    let f = find_member (λ (x : Work). x.number == w.number) (works past s.number) z.0 z.1 in
    z.1 ∙ ap (λ v. Some v) (same_number_same_work s past run z.0 w f.0 m (eqb-true z.0.number w.number f.1))

-- ---- the word

-- an entry while the job awaits no word
pub word_still : (s : SetUp) (past : List Entry) (e : Entry) (w : Work) (c : ℕ) → OwnRun s past → Member w (works past s.number) → awaits_word c w.what.peer w.phase ≡ false → word_told (e ∷ past) s.number w.number c ≡ word_told past s.number w.number c
word_still s past e w c run m none =
    let off : awaits_of c (find (λ (x : Work). x.number == w.number) (works past s.number)) ≡ false = ap (awaits_of c) (found_work s past run w m) ∙ none in
    go (is_of s.number e) (option_is (job_of e.kind) w.number) (awaits_of c (find (λ (x : Work). x.number == w.number) (works past s.number))) off
  where
    go : (a b d : Bool) → d ≡ false → (if a && b && d then word_taken past s.number c e.taken (word_told past s.number w.number c) else word_told past s.number w.number c) ≡ word_told past s.number w.number c
    go true true false x = refl
    go true false d x = refl
    go false b d x = refl
    go a b true x = absurd (cc)

-- what the job awaited, and took
pub word_now : (s : SetUp) (past : List Entry) (e : Entry) (w : Work) (c : ℕ) (f : FrameView) → OwnRun s past → Member w (works past s.number) → is_of s.number e ≡ true → job_of e.kind ≡ Some w.number → awaits_word c w.what.peer w.phase ≡ true
    → e.taken ≡ Some f → f.peer ≡ c → word_told (e ∷ past) s.number w.number c ≡ word_of (slice_get (frames_sent past (way_of s.number f)) (taken_count past (way_of s.number f)))
word_now s past e w c f run m is job waits took peer =
    let on : awaits_of c (find (λ (x : Work). x.number == w.number) (works past s.number)) ≡ true = ap (awaits_of c) (found_work s past run w m) ∙ waits in
    let at : (f.peer == c) ≡ true = ap (λ n. n == c) peer ∙ eqb_refl c in
    rw (is, job, eqb_refl w.number, on, took, at) refl
