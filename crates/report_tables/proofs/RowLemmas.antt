-- What the entries before a place leave of a row.
use Rattle.std.proofs.Common.{◌≡◌, ℕ, zero, suc, ◌+◌, ◌<◌, true, false, List, [], ◌∷◌, ◌++◌, filter, length, get_or, take, refl, sym, ◌∙◌, ap, arith, append-nil}
use Rattle.std.proofs.lemmas.List.{reverse-append, take_more}
use Rattle.std.proofs.lemmas.List.Elements.{filter-append}
use Rattle.run_data.specs.declared.row.Hold.{Hold}
use Rattle.run_data.specs.declared.run.RepoView.{RepoView}
use Rattle.run_data.specs.Repos.{offset_of}
use Rattle.node_model.specs.Rows.{blocks}
use Rattle.report_tables.specs.Before.{blockers, hold_view}

-- how far the clock of the repository at a place is ahead
pub offset_at : (repos : List RepoView) (r : ℕ) (d : RepoView) → r < length repos → (get_or repos r d).offset ≡ offset_of repos r
offset_at [] r d within = absurd (omega (arith, within))
offset_at (x ∷ xs) zero d within = refl
offset_at (x ∷ xs) (suc r) d within = offset_at xs r d (omega (arith, within))

one_more : (hs : List Hold) (i : ℕ) (h : Hold) → i < length hs → h ≡ get_or hs i h → take (i + 1) hs ≡ take i hs ++ h ∷ []
one_more hs i h within at = take_more hs i h within ∙ ap (λ (x : Hold). take i hs ++ x ∷ []) (sym at)

-- one more hold that blocks
pub blockers_with : (key : List ℕ) (clock : ℕ) (hs : List Hold) (i : ℕ) (h : Hold) → i < length hs → h ≡ get_or hs i h → blocks key clock h ≡ true
    → hold_view h ∷ blockers key clock (take i hs) ≡ blockers key clock (take (i + 1) hs)
blockers_with key clock hs i h within at passes =
    let last : filter (blocks key clock) (h ∷ []) ≡ h ∷ [] = rw passes refl in
    rw (one_more hs i h within at, filter-append (blocks key clock) (take i hs) (h ∷ []), last, reverse-append (filter (blocks key clock) (take i hs)) (h ∷ [])) refl

-- one more hold that doesn't
pub blockers_without : (key : List ℕ) (clock : ℕ) (hs : List Hold) (i : ℕ) (h : Hold) → i < length hs → h ≡ get_or hs i h → blocks key clock h ≡ false
    → blockers key clock (take i hs) ≡ blockers key clock (take (i + 1) hs)
blockers_without key clock hs i h within at fails =
    let last : filter (blocks key clock) (h ∷ []) ≡ [] = rw fails refl in
    rw (one_more hs i h within at, filter-append (blocks key clock) (take i hs) (h ∷ []), last, append-nil) refl
