-- The lines that a node owes after a step, and what it keeps then.
use Rattle.std.proofs.Common.{◌≡◌, ℕ, ◌<◌, ◌+◌, true, List, [], ◌∷◌, ◌++◌, Option, Some, None, length, is_some, refl, sym, ap, subst, ◌∙◌}
use Rattle.std.specs.Prelude.{option_to_list, vec_len}
use Rattle.std.specs.Option.{ForSome}
use Rattle.run_data.specs.declared.entry.By.TheVariants.{Script, Job as by_job, Peer}
use Rattle.run_data.specs.declared.entry.Entry.{Entry}
use Rattle.run_data.specs.declared.entry.EntryKind.{EntryKind}
use Rattle.run_data.specs.declared.entry.EntryKind.TheVariants.{Gain, Gone, Talk}
use Rattle.object_store.specs.Stores.{Contents, Parts as StoredParts}
use Rattle.union_merge.specs.Branch.{Files}
use Rattle.node_model.specs.OwedLines.{OwedLine}
use Rattle.owed_lines.specs.declared.debt.Debt.{Debt}
use Rattle.owed_lines.specs.declared.line.ToldLine.{ToldLine}
use Rattle.node_parts.specs.Places.{PlaceView}
use Rattle.node_parts.specs.declared.done.Done.{Done}
use Rattle.node_parts.specs.Kinds.{IsQuiet}
use Rattle.node_parts.specs.Parts.{PartsView}
use Rattle.node_parts.specs.Sound.{AreSound}
use Rattle.node_parts.specs.Steps.{LeavesSo}
use Rattle.node_past.specs.declared.past.Past.{Past}
use Rattle.node_past.specs.declared.setup.Setup.{Setup}
use Rattle.node_steps.specs.Kept.{IsKept}
use Rattle.node_steps.specs.Nodes.{told_of}
use Rattle.node_past.specs.Owing.{AreDebts, owed_at, owed_by}
use Rattle.node_past.specs.Pasts.{SamePast}
use Rattle.node_steps.specs.Stepping.{EntersIf, debt_by}
use Rattle.node_steps.specs.Turning.{Stepper}
use Rattle.node_steps.proofs.BeginLemmas.{kept_entered}
use Rattle.node_steps.proofs.MoveLemmas.{enters_after}
use Rattle.node_past.proofs.OwedLemmas.{DebtsIn, debts_grow, entry_debt, entry_owes, grows_same, no_debts, owed_grows, owed_in, told_debt}
use Rattle.node_steps.proofs.StepLemmas.{CountLaw, DoesBy, FillLaw, TellsJob, entry_done, kept_asked, kept_stepped, owed_so}

-- ---- what the entry owes

noted_by : (r : ℕ) (h : List Entry) (e : Entry) (kind : EntryKind) (told : Option ToldLine) → e.kind ≡ kind → owed_at r (h ++ e ∷ []) (option_to_list (debt_by kind (length h) told)) ≡ owed_so r kind told
noted_by r h e (Gain Script size key) told is = refl
noted_by r h e (Gain (by_job job) size key) told is = entry_owes r h e ∙ ap (owed_by r) is
noted_by r h e (Gain (Peer peer slot) size key) told is = entry_owes r h e ∙ ap (owed_by r) is
noted_by r h e (Gone Script key) told is = refl
noted_by r h e (Gone (by_job job) key) told is = entry_owes r h e ∙ ap (owed_by r) is
noted_by r h e (Gone (Peer peer slot) key) told is = entry_owes r h e ∙ ap (owed_by r) is
noted_by r h e (Talk None) told is = refl
noted_by r h e (Talk (Some job)) None is = refl
noted_by r h e (Talk (Some job)) (Some t) is = refl
noted_by r h e _ told is = refl

debts_by : (s : Setup) (h : List Entry) (e : Entry) (kind : EntryKind) (told : Option ToldLine) → e.kind ≡ kind → ForSome told (λ t. t.repo < length s.repos) → AreDebts s (h ++ e ∷ []) (option_to_list (debt_by kind (length h) told))
debts_by s h e (Gain Script size key) told is among = tt
debts_by s h e (Gain (by_job job) size key) told is among = entry_debt s h e (ap (λ (k : EntryKind). length (owed_by s.number k)) is)
debts_by s h e (Gain (Peer peer slot) size key) told is among = entry_debt s h e (ap (λ (k : EntryKind). length (owed_by s.number k)) is)
debts_by s h e (Gone Script key) told is among = tt
debts_by s h e (Gone (by_job job) key) told is among = entry_debt s h e (ap (λ (k : EntryKind). length (owed_by s.number k)) is)
debts_by s h e (Gone (Peer peer slot) key) told is among = entry_debt s h e (ap (λ (k : EntryKind). length (owed_by s.number k)) is)
debts_by s h e (Talk None) told is among = tt
debts_by s h e (Talk (Some job)) None is among = tt
debts_by s h e (Talk (Some job)) (Some t) is among = told_debt s (h ++ e ∷ []) t (among t refl)
debts_by s h e _ told is among = tt

-- ---- of which repository

-- a line that a job owes is of one of these repositories
abbrev pub IsAmong : List (List ℕ) → Option Done → Type 0
IsAmong repos o = ForSome o (λ d. ForSome d.owes (λ t. t.repo < length repos))

none_is : {P : Type 0} (t : ToldLine) → None ≡ Some t → P
none_is t is = absurd cc

-- where none is owed, it is so
pub none_among : (repos : List (List ℕ)) (o : Option Done) → ForSome o (λ d. d.owes ≡ None) → IsAmong repos o
none_among repos o none d is t owes = none_is t (sym (none d is) ∙ owes)

-- those of the place are those of the set-up
pub place_among : (setup : Setup) (place : PlaceView) (o : Option Done) → place ≡ record { number = setup.number; ids = setup.repos } → IsAmong place.ids o → IsAmong setup.repos o
place_among setup place o is among = subst (λ (p : PlaceView). IsAmong p.ids o) is among

-- ---- after the entry

debts_are : (d : Done) (was ready : Past) (debts debts' : List Debt) → SamePast was ready → debts ≡ [] → debts' ≡ debts ++ option_to_list (debt_by d.kind (vec_len ready.history) d.owes)
    → debts' ≡ option_to_list (debt_by d.kind (length was.history.items) d.owes)
debts_are d was ready debts debts' same none is =
    is ∙ ap (λ (x : List Debt). x ++ option_to_list (debt_by d.kind (vec_len ready.history) d.owes)) none
    ∙ ap (λ (n : ℕ). option_to_list (debt_by d.kind n d.owes)) (ready.history.ok.0 ∙ ap (λ (h : List Entry). length h) same.history)

abbrev made_in : Past → Done → Entry
made_in was d = entry_done was.setup was.time (was.count + 1) d

pub owed_noted : (d : Done) (was ready now : Past) (debts ready_debts debts' : List Debt) → SamePast was ready → ready_debts ≡ debts → EntersIf (Some d) ready now ready_debts debts' → DebtsIn was debts → owed_in was debts ≡ [] → owed_in now debts' ≡ owed_so was.setup.number d.kind d.owes
owed_noted d was ready now debts ready_debts debts' same same_debts enters are none =
    let added = enters_after d was ready now same enters.0 in
    let noted = debts_are d was ready ready_debts debts' same (same_debts ∙ no_debts was.setup was.history.items debts are none) enters.1 in
    ap (λ (x : List Debt). owed_at now.setup.number now.history.items x) noted
    ∙ ap (λ (s : Setup). owed_at s.number now.history.items (option_to_list (debt_by d.kind (length was.history.items) d.owes))) added.setup
    ∙ ap (λ (h : List Entry). owed_at was.setup.number h (option_to_list (debt_by d.kind (length was.history.items) d.owes))) added.history
    ∙ noted_by was.setup.number was.history.items (made_in was d) d.kind d.owes refl

debts_noted : (d : Done) (was ready now : Past) (debts ready_debts debts' : List Debt) → SamePast was ready → ready_debts ≡ debts → EntersIf (Some d) ready now ready_debts debts' → IsAmong was.setup.repos (Some d) → DebtsIn was debts → owed_in was debts ≡ []
    → DebtsIn now debts'
debts_noted d was ready now debts ready_debts debts' same same_debts enters among are none =
    let added = enters_after d was ready now same enters.0 in
    let noted = debts_are d was ready ready_debts debts' same (same_debts ∙ no_debts was.setup was.history.items debts are none) enters.1 in
    subst (λ (x : List Debt). AreDebts now.setup now.history.items x) (sym noted)
    (subst (λ (s : Setup). AreDebts s now.history.items (option_to_list (debt_by d.kind (length was.history.items) d.owes))) (sym added.setup)
    (subst (λ (h : List Entry). AreDebts was.setup h (option_to_list (debt_by d.kind (length was.history.items) d.owes))) (sym added.history)
    (debts_by was.setup was.history.items (made_in was d) d.kind d.owes refl (among d refl))))

-- nothing was entered
debts_same : (was ready : Past) (debts debts' : List Debt) → SamePast was ready → debts' ≡ debts → DebtsIn was debts → DebtsIn ready debts'
debts_same was ready debts debts' same is are = subst (DebtsIn ready) (sym is) (debts_grow was ready debts (grows_same was ready same) are)

pub owed_same : (was ready : Past) (debts debts' : List Debt) → SamePast was ready → debts' ≡ debts → DebtsIn was debts → owed_in ready debts' ≡ owed_in was debts
owed_same was ready debts debts' same is are = ap (owed_in ready) is ∙ owed_grows was ready debts (grows_same was ready same) are

pub debts_if : (o : Option Done) (was ready now : Past) (debts ready_debts debts' : List Debt) → SamePast was ready → ready_debts ≡ debts → EntersIf o ready now ready_debts debts' → IsAmong was.setup.repos o → DebtsIn was debts → owed_in was debts ≡ [] → DebtsIn now debts'
debts_if None was ready now debts ready_debts debts' same same_debts enters among are none =
    debts_same was now debts debts' (subst (SamePast was) (sym enters.0) same) (enters.1 ∙ same_debts) are
debts_if (Some d) was ready now debts ready_debts debts' same same_debts enters among are none = debts_noted d was ready now debts ready_debts debts' same same_debts enters among are none

pub owed_if_none : (o : Option Done) (was ready now : Past) (debts ready_debts debts' : List Debt) → SamePast was ready → ready_debts ≡ debts → EntersIf o ready now ready_debts debts' → DebtsIn was debts → o ≡ None → owed_in now debts' ≡ owed_in was debts
owed_if_none None was ready now debts ready_debts debts' same same_debts enters are none =
    owed_same was now debts debts' (subst (SamePast was) (sym enters.0) same) (enters.1 ∙ same_debts) are
owed_if_none (Some d) was ready now debts ready_debts debts' same same_debts enters are none = absurd cc

-- ---- what is kept

pub kept_if : (step : Stepper) (fills : FillLaw) (law : CountLaw) (o : Option Done) (was ready now : Past) (parts parts' : PartsView) (branch : Files) (debts ready_debts debts' : List Debt) (cs cs' : Option Contents) (qs qs' : Option StoredParts)
    → AreSound parts → AreSound parts' → SamePast was ready → ready_debts ≡ debts → EntersIf o ready now ready_debts debts' → DebtsIn was debts → owed_in was debts ≡ []
    → LeavesSo (length was.history.items + 1) parts parts' o → ForSome o (λ d. IsQuiet d.kind) → ForSome o (TellsJob step parts) → ForSome (told_of cs qs) (λ c. DoesBy step parts parts' c qs cs' was.setup was.clock was.history.items was.time o)
    → is_some qs' ≡ is_some qs → (is_some qs ≡ true → is_some cs' ≡ is_some cs) → parts'.jobs.place ≡ parts.jobs.place → parts'.jobs.begun ≡ parts.jobs.begun
    → IsKept was.setup was.clock was.history.items parts branch (owed_in was debts) (told_of cs qs) → IsKept now.setup now.clock now.history.items parts' branch (owed_in now debts') (told_of cs' qs')
kept_if step fills law None was ready now parts parts' branch debts ready_debts debts' cs cs' qs qs' sound sound' same same_debts enters are none leaves quiet tells does told_parts told_contents place begun kept =
    let same_now : SamePast was now = subst (SamePast was) (sym enters.0) same in
    kept_entered was.setup now.setup was.clock now.clock was.history.items now.history.items parts' branch (owed_in was debts) (owed_in now debts') (told_of cs' qs') same_now.setup same_now.clock same_now.history (owed_same was now debts debts' same_now (enters.1 ∙ same_debts) are)
    (subst (λ (p : PartsView). IsKept was.setup was.clock was.history.items p branch (owed_in was debts) (told_of cs' qs')) (sym leaves)
    (kept_asked step law was.setup was.clock was.history.items parts branch (owed_in was debts) cs cs' qs qs' was.time sound kept
    (subst (λ (p : PartsView). ForSome (told_of cs qs) (λ c. DoesBy step parts p c qs cs' was.setup was.clock was.history.items was.time None)) leaves does) told_parts told_contents))
kept_if step fills law (Some d) was ready now parts parts' branch debts ready_debts debts' cs cs' qs qs' sound sound' same same_debts enters are none leaves quiet tells does told_parts told_contents place begun kept =
    let added = enters_after d was ready now same enters.0 in
    kept_entered was.setup now.setup was.clock now.clock (was.history.items ++ made_in was d ∷ []) now.history.items parts' branch (owed_so was.setup.number d.kind d.owes) (owed_in now debts') (told_of cs' qs') added.setup added.clock added.history
    (owed_noted d was ready now debts ready_debts debts' same same_debts enters are none)
    (kept_stepped step was.setup was.clock was.history.items parts parts' branch cs cs' qs qs' was.time (was.count + 1) d fills law sound sound'
    (subst (λ (os : List OwedLine). IsKept was.setup was.clock was.history.items parts branch os (told_of cs qs)) none kept) leaves (quiet d refl) (tells d refl) does told_parts told_contents place begun)
