-- The lines that a repository owes its branch, what owes them, and what a refused call leaves of them (own).
use Rattle.std.specs.Prelude.{◌≡◌, ◌<◌, Bool, true, false, List, length, Option, Result, Ok, Err, ℕ, if◌then◌else◌, [], ◌∷◌, ◌++◌, drop, slice_get, Some, None}
use Rattle.annex_base.specs.declared.kinds.Call.{Call}
use Rattle.run_data.specs.declared.entry.By.{By}
use Rattle.run_data.specs.declared.entry.By.TheVariants.{Script}
use Rattle.run_data.specs.declared.entry.Entry.{Entry}
use Rattle.run_data.specs.declared.entry.EntryKind.{EntryKind}
use Rattle.node_model.specs.OwedLines.{OwedLine, owed_without, owed_for}
use Rattle.node_past.specs.declared.refused.NodeRefused.{NodeRefused}
use Rattle.node_past.specs.declared.refused.NodeRefused.TheVariants as refusals
use Rattle.node_past.specs.declared.setup.Setup.{Setup}
use Rattle.owed_lines.specs.declared.debt.Debt.{Debt}
use Rattle.owed_lines.specs.declared.debt.Debt.TheVariants as debts
use Rattle.owed_lines.specs.Lines.{line_of}
use Rattle.annex_base.specs.Lists.{Each}
use Rattle.run_data.specs.declared.entry.EntryKind.TheVariants.{Gain, Gone}

-- the line that an entry of this kind, of the repository of this number, owes
abbrev pub owed_by : ℕ → EntryKind → List OwedLine
owed_by r (Gain by size key) = owed_for r by true key
owed_by r (Gone by key) = owed_for r by false key
owed_by r kind = []

-- that of an entry, where there is one
abbrev pub owed_of : ℕ → Option Entry → List OwedLine
owed_of r None = []
owed_of r (Some e) = owed_by r e.kind

-- the line that is owed by this: by the entry at a place of a history, or since a job was told so
abbrev pub owed_by_debt : ℕ → List Entry → Debt → List OwedLine
owed_by_debt r history (debts.Entry place) = owed_of r (slice_get history place)
owed_by_debt r history (debts.Told t) = line_of t ∷ []

-- those that are owed by these, in their order
abbrev pub owed_at : ℕ → List Entry → List Debt → List OwedLine
owed_at r history [] = []
owed_at r history (d ∷ ds) = owed_by_debt r history d ++ owed_at r history ds

-- it owes one line, of one of the repositories of the set-up
abbrev pub IsDebt : Setup → List Entry → Debt → Type 0
IsDebt s history (debts.Entry place) = length (owed_of s.number (slice_get history place)) ≡ 1
IsDebt s history (debts.Told t) = t.repo < length s.repos

abbrev pub AreDebts : Setup → List Entry → List Debt → Type 0
AreDebts s history ds = Each (IsDebt s history) ds

-- a list, or where the first is to go, the rest of it
abbrev pub rest_if : {X : Type 0} → Bool → List X → List X
rest_if b xs = if b then drop 1 xs else xs

-- whether any line is owed
abbrev pub is_owing : List OwedLine → Bool
is_owing [] = false
is_owing (o ∷ os) = true

-- it is the first of these, where there are any
abbrev pub IsFirstOf : Option OwedLine → List OwedLine → Type 0
IsFirstOf None os = os ≡ []
IsFirstOf (Some o) os = os ≡ o ∷ drop 1 os

-- ---- what a refused call leaves of the lines that are owed

-- a job or a peer, for which a line is written that is owed
abbrev pub is_debtor : By → Bool
is_debtor Script = false
is_debtor by = true

-- the lines that are owed after such a step was refused
abbrev pub owed_refused : By → NodeRefused → Call → List OwedLine → List OwedLine
owed_refused by refusals.StoreFault call os = owed_without call by os
owed_refused by e call os = os

-- whether the first line is no longer owed after a file was to be written, where its lines pay it or don't
abbrev pub first_goes : Bool → By → Result (Unit {0}) NodeRefused → Bool
first_goes paid by (Ok x) = paid
first_goes paid by (Err refusals.StoreFault) = is_debtor by
first_goes paid by (Err e) = false
