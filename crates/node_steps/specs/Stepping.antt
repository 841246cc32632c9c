-- One step of a node, of one of the three kinds (own).
use Rattle.std.specs.Prelude.{◌≡◌, ℕ, Bool, true, false, List, ◌++◌, Option, Some, None, is_some, vec_len}
use Rattle.std.specs.Option.{option_map, option_to_list}
use Rattle.run_data.specs.declared.entry.EntryKind.{EntryKind}
use Rattle.run_data.specs.declared.entry.EntryKind.TheVariants.{Gain, Gone, Talk}
use Rattle.link_ring.specs.Ends.{EndView}
use Rattle.node_model.specs.Look.{Look}
use Rattle.node_model.specs.SetUp.{SetUp}
use Rattle.owed_lines.specs.declared.debt.Debt.{Debt}
use Rattle.owed_lines.specs.declared.debt.Debt.TheVariants as debts
use Rattle.owed_lines.specs.declared.line.ToldLine.{ToldLine}
use Rattle.node_parts.specs.declared.done.Done.{Done}
use Rattle.node_past.specs.declared.past.Past.{Past}
use Rattle.node_past.specs.Owing.{is_debtor}
use Rattle.node_steps.specs.Nodes.{MatchesSetup, NodeView, state_of}
use Rattle.node_past.specs.Pasts.{Enters}
use Rattle.node_past.specs.Stored.{StoreView}
use Rattle.node_steps.specs.Turning.{Adds, Looks, Stepper, StepsBy, ended_by}

-- these have no step, at any look of the node
abbrev pub NoStep : {K : Type 0} → Stepper → NodeView K → Type 0
NoStep step n = (s : SetUp) (k : Look) → MatchesSetup n.setup s → Looks n s k → step s (state_of s n.history) k ≡ None

-- whether a step was made: where so, it was this one, and else there was none
abbrev pub MovesSo : {K : Type 0} → Bool → Stepper → StoreView → StoreView → NodeView K → NodeView K → Type 0
MovesSo true step before after was now = StepsBy step before after was now
MovesSo false step before after was now = NoStep step was

-- these have a step, at each look of the node, or none
abbrev pub ReadySo : {K : Type 0} → Bool → Stepper → NodeView K → Type 0
ReadySo b step n = (s : SetUp) (k : Look) → MatchesSetup n.setup s → Looks n s k → is_some (step s (state_of s n.history) k) ≡ b

-- where a step was made, there is its entry; else the node is as it was
abbrev pub AddsIf : {K : Type 0} → Bool → List EndView → StoreView → StoreView → NodeView K → NodeView K → Type 0
AddsIf true links before after was now = Adds links before after was now
AddsIf false links before after was now = now ≡ was

-- ---- what is noted of its entry

-- the entry at this place, where it owes a line
abbrev pub entry_if : Bool → ℕ → Option Debt
entry_if true place = Some (debts.Entry place)
entry_if false place = None

-- what a talk owes: a job's what it was told; a session's nothing
abbrev pub told_by : Option ℕ → Option ToldLine → Option Debt
told_by None told = None
told_by (Some job) told = option_map debts.Told told

-- what owes a line since an entry of this kind at this place, if anything does: the entry itself, or what its job was told by it
abbrev pub debt_by : EntryKind → ℕ → Option ToldLine → Option Debt
debt_by (Gain by size key) place told = entry_if (is_debtor by) place
debt_by (Gone by key) place told = entry_if (is_debtor by) place
debt_by (Talk job) place told = told_by job told
debt_by kind place told = None

-- the past has the entry of this step
abbrev pub EntersStep : Done → Past → Past → Type 0
EntersStep d was now = Enters d.kind d.taken d.sent (ended_by d.kind (vec_len was.history)) was now

-- the entry of a step, and what owes a line since, behind what owed one before; if a step was made
abbrev pub EntersIf : Option Done → Past → Past → List Debt → List Debt → Type 0
EntersIf None was now owing owing' = (now ≡ was) × (owing' ≡ owing)
EntersIf (Some d) was now owing owing' = EntersStep d was now × (owing' ≡ owing ++ option_to_list (debt_by d.kind (vec_len was.history) d.owes))
