-- The entries before a place.
use Rattle.std.proofs.Common.{◌≡◌, ℕ, zero, suc, ◌+◌, ◌≤◌, ◌<◌, min, List, [], ◌∷◌, length, get_or, take, reverse, refl, sym, ◌∙◌, ap, arith, subst, inl, inr}
use Rattle.std.proofs.lemmas.List.{take_all, take_more, reverse-append}
use Rattle.std.proofs.lemmas.Bool.{cases_lt}
use Rattle.run_data.specs.declared.run.RepoView.{RepoView}
use Rattle.run_data.specs.declared.run.Run.{Run}
use Rattle.run_data.specs.declared.entry.Entry.{Entry}
use Rattle.annex_base.specs.Lists.{Each}
use Rattle.report_tables.specs.declared.walk.Walk.{Walk}
use Rattle.report_tables.specs.Walk.{Knows, StandsAt}
use Rattle.run_model.specs.Safety.{past_at}

-- the entries before a place and one more, the newest first
past_more : (run : Run) (place : ℕ) (e : Entry) → place < length run.entries → e ≡ get_or run.entries place e → past_at run (place + 1) ≡ e ∷ past_at run place
past_more run place e within at =
    ap reverse (take_more run.entries place e within) ∙ reverse-append (take place run.entries) _
    ∙ ap (λ (x : Entry). x ∷ past_at run place) (sym at)

-- what is known after one more entry
pub knows_more : (run : Run) (entries : List Entry) (walk : Walk) (repos : List RepoView) (place : ℕ) (e : Entry) → entries ≡ run.entries → place < length entries → e ≡ get_or entries place e
    → Knows walk repos (e ∷ past_at run place) → Knows walk repos (past_at run (place + 1))
knows_more run entries walk repos place e entries_are within at knows =
    let inside : place < length run.entries = rw entries_are at within in
    let here : e ≡ get_or run.entries place e = rw entries_are at at in
    subst (λ (past : List Entry). Knows walk repos past) (sym (past_more run place e inside here)) knows

-- what holds of each entry holds of the one at a place
each_in : (P : Entry → Type 0) (entries : List Entry) (place : ℕ) (e : Entry) → Each P entries → place < length entries → e ≡ get_or entries place e → P e
each_in P [] place e h within at = absurd (omega (arith, within))
each_in P (x ∷ xs) zero e h within at = subst P (sym at) h.0
each_in P (x ∷ xs) (suc place) e h within at = each_in P xs place e h.1 (omega (arith, within)) at

-- the same where the entries are those of a run
pub each_at : (P : Entry → Type 0) (all entries : List Entry) (place : ℕ) (e : Entry) → entries ≡ all → Each P all → place < length entries → e ≡ get_or entries place e → P e
each_at P all entries place e entries_are h within at = each_in P entries place e (subst (λ (l : List Entry). Each P l) (sym entries_are) h) within at

-- a walk up to a place, or to the end of the entries before it, has all the entries before the place
pub past_walked : (run : Run) (place upto : ℕ) → min upto (length run.entries) ≤ place → place ≤ upto → past_at run place ≡ past_at run upto
past_walked run place upto far near =
    elim (cases_lt (length run.entries) upto) [
      | inl h ↦
          let here : length run.entries ≤ place = omega arith in
          let there : length run.entries ≤ upto = omega arith in
          ap reverse (take_all place run.entries here ∙ sym (take_all upto run.entries there))
      | inr h ↦
          let same : place ≡ upto = omega arith in
          ap (past_at run) same
    ]

-- a walk that knows what is there after the entries up to a place stands there
pub stands_walked : (run : Run) (entries : List Entry) (walk : Walk) (place upto : ℕ) → entries ≡ run.entries → min upto (length entries) ≤ place → place ≤ upto
    → Knows walk run.repos (past_at run place) → StandsAt (record walk { place = upto }) run upto
stands_walked run entries walk place upto entries_are far near knows =
    let far' : min upto (length run.entries) ≤ place = rw entries_are at far in
    let there : Knows walk run.repos (past_at run upto) = subst (λ (past : List Entry). Knows walk run.repos past) (past_walked run place upto far' near) knows in
    record { place_is = refl; knows = record { contents = there.contents; branches = there.branches; sets = there.sets; rows = there.rows } }
