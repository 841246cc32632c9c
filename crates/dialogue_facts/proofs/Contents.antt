-- A content is there exactly where its row is, and is shorter than a place that it doesn't reach.
use Rattle.std.proofs.Common.{◌≡◌, ℕ, ◌<◌, ◌≤◌, Bool, true, false, List, [], ◌∷◌, Option, Some, None, refl, sym, ap, ◌∙◌, arith}
use Rattle.std.specs.Prelude.{bytes_eq, if◌then◌else◌, nat_le, ◌||◌, ◌&&◌, not}
use Rattle.std.proofs.lemmas.Bool.Decides.{nat_tests}
use Rattle.run_data.specs.declared.entry.Entry.{Entry}
use Rattle.run_data.specs.declared.entry.EntryKind.{EntryKind}
use Rattle.run_data.specs.declared.entry.EntryKind.TheVariants.{Gain, Gone}
use Rattle.run_model.specs.Past.{is_of, present}
use Rattle.run_model.specs.Causes.{IsBelow}
use Rattle.run_model.specs.States.{content}
use Rattle.node_model.specs.Sessions.{reaches}
use Rattle.node_model.specs.Rows.{content_after, present_after}

abbrev is_there : Option ℕ → Bool
is_there None = false
is_there (Some size) = true

there_after : (key : List ℕ) (was : Option ℕ) (kind : EntryKind) → is_there (content_after key was kind) ≡ present_after key (is_there was) kind
there_after key was (Gain source size k) = go was (bytes_eq k key)
  where
    go : (o : Option ℕ) (b : Bool) → is_there (if b then Some size else o) ≡ (is_there o || b)
    go None true = refl
    go None false = refl
    go (Some n) true = refl
    go (Some n) false = refl
there_after key was (Gone source k) = go was (bytes_eq k key)
  where
    go : (o : Option ℕ) (b : Bool) → is_there (if b then None else o) ≡ (is_there o && not b)
    go None true = refl
    go None false = refl
    go (Some n) true = refl
    go (Some n) false = refl
there_after key was kind = refl

content_there : (past : List Entry) (r : ℕ) (key : List ℕ) → is_there (content past r key) ≡ present past r key
content_there [] r key = refl
content_there (e ∷ past) r key = go (content_there past r key) (is_of r e)
  where
    go : is_there (content past r key) ≡ present past r key → (b : Bool)
        → is_there (if b then content_after key (content past r key) e.kind else content past r key) ≡ (if b then present_after key (present past r key) e.kind else present past r key)
    go same true = there_after key (content past r key) e.kind ∙ ap (λ b. present_after key b e.kind) same
    go same false = same

-- a content that doesn't reach the first place isn't there
pub absent_row : (past : List Entry) (r : ℕ) (key : List ℕ) → IsBelow (content past r key) 0 → present past r key ≡ false
absent_row past r key short = sym (content_there past r key) ∙ go (content past r key) short
  where
    go : (o : Option ℕ) → IsBelow o 0 → is_there o ≡ false
    go None short = refl
    go (Some size) short = absurd (omega (arith, short))

pub below : (o : Option ℕ) (place bound : ℕ) → reaches o place ≡ false → place ≤ bound → IsBelow o bound
below None place bound gone low = tt
below (Some size) place bound gone low = less size place bound gone low
  where
    less : (size place bound : ℕ) → nat_le place size ≡ false → place ≤ bound → size < bound
    less size place bound gone low = grind (arith, nat_tests)
