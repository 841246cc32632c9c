-- What stands beside a history stays so with one more entry.
use Rattle.std.proofs.Common.{◌≡◌, ℕ, Bool, true, List, [], ◌∷◌, ◌++◌, ◌+◌, ◌<◌, ◌≤◌, arith, length, map, Option, Some, None, option_map, is_some, refl, sym, ap, subst, ◌∙◌, All}
use Rattle.std.specs.Prelude.{slice_get}
use Rattle.std.specs.Option.{ForSome, unwrap_or}
use Rattle.std.proofs.lemmas.List.{length-append, length-map, reverse-append}
use Rattle.std.proofs.lemmas.List.Elements.{All-weaker}
use Rattle.annex_base.specs.declared.kinds.Call.TheVariants.{PutFile}
use Rattle.object_store.specs.Stores.{Contents, Parts, Files as StoredFiles}
use Rattle.content_lock.specs.Rows.{Rows, bar_at, is_filling}
use Rattle.content_lock.specs.Stored.{AreRecordsOf}
use Rattle.object_store.specs.declared.keeper.HoldRecord.{HoldRecord}
use Rattle.union_merge.specs.Branch.{Files, lines_at}
use Rattle.run_data.specs.declared.row.Hold.{Hold}
use Rattle.run_data.specs.declared.entry.Entry.{Entry}
use Rattle.run_data.specs.declared.entry.EntryKind.{EntryKind}
use Rattle.run_data.specs.declared.entry.EntryKind.TheVariants.{Gain, Log, Compact, Fault}
use Rattle.run_data.specs.declared.entry.By.{By}
use Rattle.run_data.specs.declared.entry.By.TheVariants.{Script, Job as by_job, Peer}
use Rattle.run_data.specs.declared.run.RepoView.{RepoView}
use Rattle.node_model.specs.After.{clock_after, first_state, state_after, states}
use Rattle.node_model.specs.Clocks.{runs_on}
use Rattle.node_model.specs.Files.{lines_after}
use Rattle.node_model.specs.OwedLines.{OwedLine}
use Rattle.node_model.specs.Rows.{bar_after, content_after, holds_after, present_after}
use Rattle.node_model.specs.SessionStep.{is_filled}
use Rattle.node_model.specs.SetUp.{SetUp}
use Rattle.node_model.specs.State.{State}
use Rattle.node_parts.specs.Places.{PlaceView}
use Rattle.node_parts.specs.Sessions.{IsSetUp}
use Rattle.node_parts.specs.Direct.{IsDirect, MovesNothing, may_fail}
use Rattle.node_parts.specs.Parts.{AreAllFed, AreParts, PartsView}
use Rattle.node_parts.specs.Sound.{AreSound}
use Rattle.node_past.specs.declared.setup.Setup.{Setup}
use Rattle.node_steps.specs.Nodes.{MatchesSetup, IsState, NodeView, IsStateOfParts, state_of, told_of}
use Rattle.node_ledger.specs.Ledgers.{owed_now, LedgerView}
use Rattle.node_past.specs.Stored.{HasNothing}
use Rattle.node_steps.specs.Kept.{Stands, IsKept, IsOfFiles, KeepsDirect}
use Rattle.node_steps.proofs.DueLemmas.{id_is, owed_is}

-- the state after one more entry
pub state_more : (s : SetUp) (h : List Entry) (e : Entry) → state_of s (h ++ e ∷ []) ≡ state_after s (state_of s h) e
state_more s h e = ap (states s) (reverse-append h (e ∷ []))

abbrev pub made : ℕ → ℕ → ℕ → EntryKind → List (List ℕ) → Entry
made time count r kind lines = record { time = time; count = count; repo = Some r; kind = kind; taken = None; sent = []; lines = lines }

-- ---- the laws of a node's parts

pub laws_of : ((s : SetUp) (st : State) (e : Entry) (p : PartsView) → AreSound p → MovesNothing e → AreParts s st p → AreParts s (state_after s st e) p)
    → ((s : SetUp) (st : State) (p : PartsView) (key : List ℕ) → AreSound p → AreParts s st p → is_filling p.table key ≡ is_filled s st key)
    → ((was : List Hold) (kind : EntryKind) → IsDirect kind → holds_after was kind ≡ was)
    → ((key : List ℕ) (was : Option ℕ) (kind : EntryKind) → IsDirect kind → bar_after key was kind ≡ was)
    → (p : PartsView) → AreSound p → KeepsDirect p
laws_of stay fills holds bars p sound = record { stay = λ s st e. stay s st e p sound; fills = λ s st key. fills s st p key sound; holds = holds; bars = bars }

-- ---- clocks and numbers

clock_same : (was : ℕ → ℕ) (time : ℕ) (kind : EntryKind) → IsDirect kind → clock_after was time kind ≡ was
clock_same was time (Gain Script size key) direct = refl
clock_same was time (Log file) direct = refl
clock_same was time (Compact file) direct = refl
clock_same was time (Fault call by) direct = refl
clock_same was time _ direct = absurd direct

longer : (h : List Entry) (e : Entry) → length h + 1 ≤ length (h ++ e ∷ []) + 1
longer h e = let more : length (h ++ e ∷ []) ≡ length h + 1 = length-append h (e ∷ []) in omega (arith, more)

numbers_more : (h : List Entry) (e : Entry) (hs : List Hold) → All (λ x. x.number < length h + 1) hs → All (λ x. x.number < length (h ++ e ∷ []) + 1) hs
numbers_more h e hs less = All-weaker (λ (x : Hold). x.number < length h + 1) (λ (x : Hold). x.number < length (h ++ e ∷ []) + 1) (λ x l. omega (arith, l, longer h e)) hs less

-- ---- contents

pub direct : (kind : EntryKind) → IsOfFiles kind → IsDirect kind
direct (Log file) h = tt
direct (Compact file) h = tt
direct (Fault call by) h = h
direct _ h = absurd h

content_same : (key : List ℕ) (was : Option ℕ) (kind : EntryKind) → IsOfFiles kind → content_after key was kind ≡ was
content_same key was (Log file) h = refl
content_same key was (Compact file) h = refl
content_same key was (Fault call by) h = refl
content_same key was _ h = absurd h

present_same : (key : List ℕ) (was : Bool) (kind : EntryKind) → IsOfFiles kind → present_after key was kind ≡ was
present_same key was (Log file) h = refl
present_same key was (Compact file) h = refl
present_same key was (Fault call by) h = refl
present_same key was _ h = absurd h

-- ---- the state with one more entry

-- a store that tells these contents told others before, and an entry of this kind leaves these
pub record MovesTo (kind : EntryKind) (told : Option Contents) (now : Contents) : Type 0 where
  pub was : Contents
  pub told_so : told ≡ Some was
  pub content : (key : List ℕ) (had : Option ℕ) → option_map length (was key) ≡ had → option_map length (now key) ≡ content_after key had kind
  pub present : (key : List ℕ) (had : Bool) → is_some (was key) ≡ had → is_some (now key) ≡ present_after key had kind

-- what the store tells of contents is what an entry of this kind leaves
abbrev pub Moves : EntryKind → Option Contents → Option Contents → Type 0
Moves kind told told' = ForSome told' (MovesTo kind told)

pub files_move : (kind : EntryKind) (told told' : Option Contents) → IsOfFiles kind → told' ≡ told → Moves kind told told'
files_move kind told told' of_files same = λ c is. record {
  was = c;
  told_so = sym same ∙ is;
  content = λ key had h. h ∙ sym (content_same key had kind of_files);
  present = λ key had h. h ∙ sym (present_same key had kind of_files);
}

stands_more : {K : Type 0} (n : NodeView K) (s : SetUp) (told : Option Contents) (owed' : List OwedLine) (kind : EntryKind) (lines : List (List ℕ)) (now : Contents)
    → KeepsDirect n.parts → IsDirect kind → MatchesSetup n.setup s → IsState s n.parts n.branch n.owed told (state_of s n.history) → owed' ≡ owed_now n kind lines
    → (m : MovesTo kind told now) → IsStateOfParts s n.parts n.owed m.was (state_of s n.history)
    → IsStateOfParts s n.parts owed' now (state_after s (state_of s n.history) (made n.time (n.count + 1) n.setup.number kind lines))
stands_more n s told owed' kind lines now laws d fits is owes m stood =
    let st : State = state_of s n.history in
    let e : Entry = made n.time (n.count + 1) n.setup.number kind lines in
    let are : AreParts s (state_after s st e) n.parts = laws.stay s st e (record { kind = d; takes = refl; sends = refl }) stood.parts_are in record {
      parts_are = are;
      fills = λ key. laws.fills s (state_after s st e) key are;
      stored = record { present = λ key. m.present key (st.present key) (stood.stored.present key); content = λ key. m.content key (st.content key) (stood.stored.content key) };
      owed_are = owed_is n s told kind lines d fits is stood.owed_are ∙ sym owes;
    }

state_kept : {K : Type 0} (n : NodeView K) (s : SetUp) (branch' : Files) (told told' : Option Contents) (owed' : List OwedLine) (kind : EntryKind) (lines : List (List ℕ))
    → KeepsDirect n.parts → IsDirect kind → MatchesSetup n.setup s → IsState s n.parts n.branch n.owed told (state_of s n.history)
    → ((p : List ℕ) → lines_at branch' p ≡ lines_after p (lines_at n.branch p) kind lines)
    → Moves kind told told' → owed' ≡ owed_now n kind lines
    → IsState s n.parts branch' owed' told' (state_after s (state_of s n.history) (made n.time (n.count + 1) n.setup.number kind lines))
state_kept n s branch' told told' owed' kind lines laws d fits was here moves owes =
    let st : State = state_of s n.history in record {
      holds = was.holds ∙ sym (laws.holds st.holds kind d);
      bars = λ key. was.bars key ∙ sym (laws.bars key (st.bar key) kind d);
      lines = λ p. here p ∙ ap (λ (w : List (List ℕ)). lines_after p w kind lines) (was.lines p);
      stands = λ c is. let m : MovesTo kind told c = moves c is in stands_more n s told owed' kind lines c laws d fits was owes m (was.stands m.was m.told_so);
    }

-- a node with one more entry is kept
pub kept_more : {K : Type 0} (n : NodeView K) (branch' : Files) (told told' : Option Contents) (owed' : List OwedLine) (kind : EntryKind) (lines : List (List ℕ))
    → KeepsDirect n.parts → IsDirect kind → IsKept n.setup n.clock n.history n.parts n.branch n.owed told
    → ((p : List ℕ) → lines_at branch' p ≡ lines_after p (lines_at n.branch p) kind lines)
    → Moves kind told told' → owed' ≡ owed_now n kind lines
    → IsKept n.setup n.clock (n.history ++ made n.time (n.count + 1) n.setup.number kind lines ∷ []) n.parts branch' owed' told'
kept_more n branch' told told' owed' kind lines laws d kept here moves owes =
    let e : Entry = made n.time (n.count + 1) n.setup.number kind lines in record {
      state = λ s fits. subst (IsState s n.parts branch' owed' told') (sym (state_more s n.history e)) (state_kept n s branch' told told' owed' kind lines laws d fits (kept.state s fits) here moves owes);
      clock = λ s fits. ap (λ (st : State). st.clock) (state_more s n.history e) ∙ clock_same (state_of s n.history).clock n.time kind d ∙ kept.clock s fits;
      numbered = numbers_more n.history e n.parts.table.holds kept.numbered;
      place = kept.place;
      begun = omega (arith, kept.begun, longer n.history e);
    }

-- the call that writes a file may fail for whomever it is made
pub put_may_fail : (by : By) → may_fail by PutFile ≡ true
put_may_fail Script = refl
put_may_fail (by_job job) = refl
put_may_fail (Peer peer slot) = refl

-- ---- before the first entry

pub told_some : (contents : Option Contents) (parts : Option Parts) (c : Contents) → told_of contents parts ≡ Some c → contents ≡ Some c
told_some contents None c told = absurd cc
told_some contents (Some p) c told = told

-- the parts before the first entry are those of a set-up that fits
abbrev pub FitSo : Setup → List (List ℕ) → PartsView → Type 0
FitSo setup ids p = (s : SetUp) → IsSetUp s setup.id setup.version setup.locks setup.number (length ids) → map (λ (repo : RepoView). repo.id) s.repos ≡ ids → AreParts s (first_state s) p

set_up : (setup : Setup) (s : SetUp) → slice_get setup.repos setup.number ≡ Some setup.id → MatchesSetup setup s → IsSetUp s setup.id setup.version setup.locks setup.number (length setup.repos)
set_up setup s own fits = record {
  number_is = fits.number;
  count_is = sym (length-map s.repos (λ (repo : RepoView). repo.id)) ∙ ap (λ (ids : List (List ℕ)). length ids) fits.ids;
  id_is = id_is s.repos s.number ∙ ap (λ (ids : List (List ℕ)). unwrap_or (slice_get ids s.number) []) fits.ids ∙ ap (λ (r : ℕ). unwrap_or (slice_get setup.repos r) []) fits.number ∙ ap (λ (o : Option (List ℕ)). unwrap_or o []) own;
  version_is = fits.version;
  locks_are = fits.locks;
}

-- no hold, no bar and no fill
abbrev pub no_rows : Rows
no_rows = record { holds = []; bars = []; fills = [] }

first_numbered : (rows : Rows) → rows ≡ no_rows → All (λ h. h.number < 1) rows.holds
first_numbered rows none = subst (λ (r : Rows). All (λ h. h.number < 1) r.holds) (sym none) (λ k d less. absurd (omega (arith, less)))

pub kept_first : (setup : Setup) (p : PartsView) (told : Option Contents) → KeepsDirect p → p.table ≡ no_rows → p.jobs.place ≡ record { number = setup.number; ids = setup.repos } → p.jobs.begun ≡ 0
    → slice_get setup.repos setup.number ≡ Some setup.id → FitSo setup setup.repos p → ForSome told (λ c. (key : List ℕ) → c key ≡ None) → IsKept setup (record { at = 0; to = setup.offset }) [] p [] [] told
kept_first setup p told laws none place begun own fit empty = record {
  state = λ s fits. record {
    holds = ap (λ (r : Rows). r.holds) none;
    bars = λ key. ap (λ (r : Rows). bar_at r key) none;
    lines = λ path. refl;
    stands = λ c is. let are : AreParts s (first_state s) p = fit s (set_up setup s own fits) fits.ids in record {
      parts_are = are;
      fills = λ key. laws.fills s (first_state s) key are;
      stored = record { present = λ key. ap is_some (empty c is key); content = λ key. ap (option_map length) (empty c is key) };
      owed_are = refl;
    };
  };
  clock = λ s fits. ap (λ (offset : ℕ). runs_on (record { at = 0; to = offset })) fits.offset;
  numbered = first_numbered p.table none;
  place = place;
  begun = omega (arith, begun);
}

pub no_records : (holds : List Hold) (records : List HoldRecord) → holds ≡ [] → records ≡ [] → AreRecordsOf holds records
no_records holds records none empty =
    subst (λ (h : List Hold). AreRecordsOf h records) (sym none) (subst (λ (r : List HoldRecord). AreRecordsOf [] r) (sym empty) refl)

-- a ledger and its parts before the first entry stand
pub stands_new : {K : Type 0} (cs : K → Option Contents) (ps : K → Option Parts) (rs : K → Option (List HoldRecord)) (fs : Option StoredFiles) (l : LedgerView K) (setup : Setup) (keeper : K) (ids : List (List ℕ)) (p : PartsView)
    → l ≡ record { setup = setup; keeper = keeper; parts = tt; branch = []; time = 0; count = 0; clock = record { at = 0; to = setup.offset }; history = []; outcomes = []; owed = [] } → KeepsDirect p → p.table ≡ no_rows → p.jobs.place ≡ record { number = setup.number; ids = ids } → p.jobs.begun ≡ 0
    → slice_get setup.repos setup.number ≡ Some setup.id → FitSo setup ids p → ids ≡ setup.repos → ((q : Parts) → AreAllFed q p) → HasNothing (cs keeper) (ps keeper) (rs keeper) fs
    → Stands l p (cs l.keeper) (ps l.keeper) (rs l.keeper)
stands_new {K} cs ps rs fs l setup keeper ids p is keeps none place begun own fit same fed empty =
    subst (λ (x : LedgerView K). Stands x p (cs x.keeper) (ps x.keeper) (rs x.keeper)) (sym is)
    (record {
      kept = kept_first setup p (told_of (cs keeper) (ps keeper)) keeps none (place ∙ ap (λ (xs : List (List ℕ)). seat setup.number xs) same) begun own
          (subst (λ (xs : List (List ℕ)). FitSo setup xs p) same fit) (λ x told. empty.contents x (told_some (cs keeper) (ps keeper) x told));
      agrees = λ x told. no_records p.table.holds x (ap (λ (r : Rows). r.holds) none) (empty.records x told);
      fed = λ q told. fed q;
    })
  where
    seat : ℕ → List (List ℕ) → PlaceView
    seat number ids = record { number = number; ids = ids }
