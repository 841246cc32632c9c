-- A node after a content came, or a part.
use Rattle.std.proofs.Common.{◌≡◌, ℕ, inl, inr, Bool, true, false, ◌||◌, List, [], length, Option, Some, None, Result, Ok, Err, OnOk, OnErr, IfErr, option_map, is_some, bytes_eq, refl, sym, ap, subst, ◌∙◌, if◌then◌else◌}
use Rattle.std.specs.Option.{ForSome}
use Rattle.std.proofs.lemmas.Option.{none-some, same_Some}
use Rattle.std.proofs.Math.Bool.{or-false, or-true}
use Rattle.annex_base.proofs.Conditions.{by_test}
use Rattle.object_store.specs.Stores.{Contents, Parts, contents_after_commit, with_at}
use Rattle.object_store.specs.declared.keeper.HoldRecord.{HoldRecord}
use Rattle.run_data.specs.declared.entry.EntryKind.TheVariants.{Gain}
use Rattle.run_data.specs.declared.entry.By.TheVariants.{Script}
use Rattle.node_model.specs.Rows.{content_after, present_after}
use Rattle.annex_base.specs.declared.kinds.Call.{Call}
use Rattle.annex_base.specs.declared.kinds.Call.TheVariants.{Commit, PutFile}
use Rattle.content_lock.specs.Rows.{is_filling}
use Rattle.node_past.specs.declared.refused.NodeRefused.{NodeRefused}
use Rattle.node_past.specs.declared.refused.NodeRefused.TheVariants as refusals
use Rattle.node_ledger.specs.Debts.{with_status}
use Rattle.node_steps.specs.Parts.{AreAllFed, PartsView}
use Rattle.node_steps.specs.Sound.{AreSound}
use Rattle.node_steps.specs.Kept.{IsFed, Stands, KeepsDirect}
use Rattle.node_steps.specs.Nodes.{NodeView, told_of, beside}
use Rattle.store_entries.specs.Placing.{HasPart, IsTaken, LeavesFilled}
use Rattle.repo_node.specs.Placing.{IsPlaced, StopsPlacing, with_content, with_placed}
use Rattle.node_ledger.specs.Placing.{with_gain, StopsBefore}
use Rattle.node_ledger.specs.Refusals.{RefusesFor, RefusesSo}
use Rattle.node_ledger.specs.Walks.{over}
use Rattle.node_steps.proofs.StateLemmas.{Moves, told_some, kept_more}
use Rattle.store_entries.proofs.PartLemmas.{others_changed, filled_left}
use Rattle.node_ledger.specs.Ledgers.{LedgerView}
use Rattle.node_steps.proofs.KeptLemmas.{KeptAt, told_same, kept_equal, kept_refused}

size_at : (c : Contents) (key k bytes : List ℕ) (size : ℕ) (was : Option ℕ) → length bytes ≡ size → option_map length (c k) ≡ was
    → option_map length (with_at c key (Some bytes) k) ≡ (if bytes_eq key k then Some size else was)
size_at c key k bytes size was long is = by_test (bytes_eq key k)
    (λ b. ap (λ (t : Bool). option_map length (if t then Some bytes else c k)) b ∙ ap (λ (n : ℕ). Some n) long ∙ sym (ap (λ (t : Bool). if t then Some size else was) b))
    (λ b. ap (λ (t : Bool). option_map length (if t then Some bytes else c k)) b ∙ is ∙ sym (ap (λ (t : Bool). if t then Some size else was) b))

there_at : (c : Contents) (key k bytes : List ℕ) (was : Bool) → is_some (c k) ≡ was → is_some (with_at c key (Some bytes) k) ≡ (was || bytes_eq key k)
there_at c key k bytes was is = by_test (bytes_eq key k)
    (λ b. ap (λ (t : Bool). is_some (if t then Some bytes else c k)) b ∙ sym (or-true was) ∙ sym (ap (λ (t : Bool). was || t) b))
    (λ b. ap (λ (t : Bool). is_some (if t then Some bytes else c k)) b ∙ is ∙ sym (or-false was) ∙ sym (ap (λ (t : Bool). was || t) b))

-- the contents after a commit are those that the entry of a gain leaves, where the store tells
pub gain_moves : (known known' : Option Contents) (parts parts' : Option Parts) (key : List ℕ) (size : ℕ) → ForSome parts (λ p. length (p key) ≡ size)
    → known' ≡ contents_after_commit known parts key → parts' ≡ option_map (λ (p : Parts). with_at p key []) parts → Moves (Gain Script size key) (told_of known parts) (told_of known' parts')
gain_moves known known' None parts' key size long is emptied = λ c told. absurd (none-some c (sym (ap (told_of known') emptied) ∙ told))
gain_moves None known' (Some p) parts' key size long is emptied = λ c told. absurd (none-some c (sym is ∙ told_some known' parts' c told))
gain_moves (Some c) known' (Some p) parts' key size long is emptied = λ c' told. record {
  was = c;
  told_so = refl;
  content = λ k had h.
      subst (λ (x : Contents). option_map length (x k) ≡ content_after k had (Gain Script size key)) (same_Some _ c' (sym is ∙ told_some known' parts' c' told))
      (size_at c key k (p key) size had (long p refl) h);
  present = λ k had h.
      subst (λ (x : Contents). is_some (x k) ≡ present_after k had (Gain Script size key)) (same_Some _ c' (sym is ∙ told_some known' parts' c' told))
      (there_at c key k (p key) had h);
}

-- the contents after a commit of these bytes
pub committed : (known known' : Option Contents) (parts : Option Parts) (key bytes : List ℕ) → ForSome parts (λ p. p key ≡ bytes) → known' ≡ contents_after_commit known parts key → known' ≡ with_content known parts key bytes
committed None known' parts key bytes has is = is
committed (Some c) known' None key bytes has is = is
committed (Some c) known' (Some p) key bytes has is = is ∙ ap (λ (b : List ℕ). Some (with_at c key (Some b))) (has p refl)

some_there : (p : Option Parts) → is_some p ≡ true → (f : Parts) × (p ≡ Some f)
some_there None there = absurd cc
some_there (Some f) there = (f, refl)

told_there : (g : Parts) (p q : Option Parts) → is_some q ≡ is_some p → q ≡ Some g → (f : Parts) × (p ≡ Some f)
told_there g p q same told = some_there p (sym same ∙ ap is_some told)

-- where the parts of the keys that the table fills stay, they are what sessions and gets have taken
abbrev FedStays : Type 0
FedStays = (p : PartsView) (was now : Parts) → AreSound p → ((key : List ℕ) → is_filling p.table key ≡ true → now key ≡ was key) → AreAllFed was p → AreAllFed now p

pub fed_left : FedStays → (p : PartsView) (known known' : Option Parts) → AreSound p → LeavesFilled p.table known known' → IsFed known p → IsFed known' p
fed_left stays p known known' sound leaves fed = λ g told.
    let was = told_there g known known' leaves.tells told in
    stays p was.0 g sound (leaves.filled was.0 was.1 g told) (fed was.0 was.1)

-- ---- a ledger is kept beside its parts

-- a step that replaces a part was done, or refused
kept_brought : {K X : Type 0} (r : Result X NodeRefused) (l m : LedgerView K) (p : PartsView) (told : Option Contents) → KeepsDirect p → OnOk r (m ≡ over m.keeper l) → IfErr r (λ e. StopsBefore e l m) → KeptAt l p told → KeptAt m p told
kept_brought (Ok x) l m p told keeps ok err kept = kept_equal (over m.keeper l) m p told ok kept
kept_brought (Err e) l m p told keeps ok err kept = kept_refused Script e err.call l m p told keeps err.scripts err.refused kept

pub stands_brought : {K X : Type 0} (stays : FedStays) (r : Result X NodeRefused) (l m : LedgerView K) (p : PartsView) (cs cs' : Option Contents) (ps ps' : Option Parts) (rs rs' : Option (List HoldRecord)) → AreSound p → KeepsDirect p
    → OnOk r (m ≡ over m.keeper l) → IfErr r (λ e. StopsBefore e l m) → cs' ≡ cs → rs' ≡ rs → LeavesFilled p.table ps ps' → Stands l p cs ps rs → Stands m p cs' ps' rs'
stands_brought stays r l m p cs cs' ps ps' rs rs' sound keeps ok err contents records leaves stands = record {
  kept = kept_brought r l m p (told_of cs' ps') keeps ok err (subst (KeptAt l p) (sym (told_same cs cs' ps ps' contents leaves.tells)) stands.kept);
  agrees = λ x told. stands.agrees x (sym records ∙ told);
  fed = fed_left stays p ps ps' sound leaves stands.fed;
}

-- a content came, or was refused
kept_gained : {K : Type 0} (r : Result (Unit {0}) NodeRefused) (l m : LedgerView K) (p : PartsView) (cs cs' : Option Contents) (ps ps' : Option Parts) (key : List ℕ) (size : ℕ) → KeepsDirect p
    → OnOk r (m ≡ with_gain l m.keeper key size) → IfErr r (λ e. RefusesSo e Commit l m) → OnOk r (cs' ≡ contents_after_commit cs ps key) → OnErr r (cs' ≡ cs) → OnOk r (ps' ≡ option_map (λ (q : Parts). with_at q key []) ps) → OnErr r (ps' ≡ ps)
    → ForSome ps (λ q. length (q key) ≡ size) → KeptAt l p (told_of cs ps) → KeptAt m p (told_of cs' ps')
kept_gained (Ok x) l m p cs cs' ps ps' key size keeps ok err content left emptied stays long kept =
    kept_equal (with_gain l m.keeper key size) m p (told_of cs' ps') ok
    (kept_more (beside p l) l.branch (told_of cs ps) (told_of cs' ps') l.owed (Gain Script size key) [] keeps tt kept (λ path. refl) (gain_moves cs cs' ps ps' key size long content emptied) refl)
kept_gained (Err e) l m p cs cs' ps ps' key size keeps ok err content left emptied stays long kept =
    kept_refused Script e Commit l m p (told_of cs' ps') keeps refl err (subst (KeptAt l p) (sym (told_same cs cs' ps ps' left (ap is_some stays))) kept)

pub stands_gained : {K : Type 0} (fed : FedStays) (r : Result (Unit {0}) NodeRefused) (l m : LedgerView K) (p : PartsView) (cs cs' : Option Contents) (ps ps' : Option Parts) (rs rs' : Option (List HoldRecord)) (key : List ℕ) (size : ℕ) → AreSound p → KeepsDirect p
    → OnOk r (m ≡ with_gain l m.keeper key size) → IfErr r (λ e. RefusesSo e Commit l m) → OnOk r (cs' ≡ contents_after_commit cs ps key) → OnErr r (cs' ≡ cs) → OnOk r (ps' ≡ option_map (λ (q : Parts). with_at q key []) ps) → OnErr r (ps' ≡ ps)
    → rs' ≡ rs → ForSome ps (λ q. length (q key) ≡ size) → is_filling p.table key ≡ false → Stands l p cs ps rs → Stands m p cs' ps' rs'
stands_gained fed r l m p cs cs' ps ps' rs rs' key size sound keeps ok err content left emptied stays records long free stands = record {
  kept = kept_gained r l m p cs cs' ps ps' key size keeps ok err content left emptied stays long stands.kept;
  agrees = λ x told. stands.agrees x (sym records ∙ told);
  fed = fed_left fed p ps ps' sound (filled_left p.table key ps ps' free (others_changed r key (λ q. []) ps ps' emptied stays)) stands.fed;
}

-- the part that was brought has the bytes
pub long_brought : (key bytes : List ℕ) (ps ps' : Option Parts) → HasPart key bytes ps ps' → ForSome ps' (λ q. length (q key) ≡ length bytes)
long_brought key bytes ps ps' has = λ q told. ap (λ (b : List ℕ). length b) (has.bytes_are q told)

-- ---- a content that is placed

refuses_over : {K : Type 0} (k : K) (n m : NodeView K) (e : NodeRefused) (call : Call) → RefusesFor Script e call (over k n) m → RefusesFor Script e call n m
refuses_over k n m refusals.Full call h = h
refuses_over k n m refusals.StoreFault call h = h
refuses_over k n m (refusals.BadBundle at) call h = h
refuses_over k n m refusals.NoMemory call h = h

content_told : (known : Option Contents) (p q : Option Parts) (key bytes : List ℕ) → is_some q ≡ is_some p → with_content known q key bytes ≡ with_content known p key bytes
content_told None p q key bytes same = refl
content_told (Some c) None None key bytes same = refl
content_told (Some c) (Some f) (Some g) key bytes same = refl
content_told (Some c) None (Some g) key bytes same = absurd cc
content_told (Some c) (Some f) None key bytes same = absurd cc

-- the contents of a node that was brought the key's part, after the commit
pub placed_content : (known mid after : Option Contents) (p q : Option Parts) (key bytes : List ℕ) → HasPart key bytes p q → mid ≡ known → after ≡ contents_after_commit mid q key → after ≡ with_content known p key bytes
placed_content known mid after p q key bytes has same is =
    committed mid after q key bytes has.bytes_are is ∙ ap (λ (c : Option Contents). with_content c q key bytes) same ∙ content_told known p q key bytes has.tells

-- the commit was refused
pub stops_before : {K : Type 0} (e : NodeRefused) (key bytes : List ℕ) (known mid after : Option Contents) (parts : Option Parts) (n b m : NodeView K) → b ≡ over b.keeper n → RefusesFor Script e Commit b m → mid ≡ known → after ≡ mid
    → StopsPlacing key bytes known parts after e n m
stops_before {K} e key bytes known mid after parts n b m is refused same stays = inl (
  record { call = Commit; scripts = refl; refused = refuses_over b.keeper n m e Commit (subst (λ (v : NodeView K). RefusesFor Script e Commit v m) is refused) },
  stays ∙ same,
)

gained_over : {K : Type 0} (n b g : NodeView K) (key : List ℕ) (size : ℕ) → b ≡ over b.keeper n → g ≡ with_gain b g.keeper key size → g ≡ with_gain n g.keeper key size
gained_over {K} n b g key size is gained = gained ∙ ap (λ (v : NodeView K). with_gain v g.keeper key size) is

-- its line was refused
pub stops_behind : {K : Type 0} (r : Result (Unit {0}) NodeRefused) (key bytes : List ℕ) (known after last : Option Contents) (parts : Option Parts) (n b g m : NodeView K)
    → b ≡ over b.keeper n → g ≡ with_gain b g.keeper key (length bytes) → IfErr r (λ e. RefusesFor Script e PutFile g m) → after ≡ with_content known parts key bytes → last ≡ after
    → IfErr r (λ e. StopsPlacing key bytes known parts last e n m)
stops_behind (Ok x) key bytes known after last parts n b g m is gained refused content same = tt
stops_behind {K} (Err e) key bytes known after last parts n b g m is gained refused content same = inr (
  record { keeper = g.keeper; refused = subst (λ (v : NodeView K). RefusesFor Script e PutFile v m) (gained_over n b g key (length bytes) is gained) refused },
  same ∙ content,
)

pub is_placed : {K : Type 0} (r : Result (Unit {0}) NodeRefused) (key bytes : List ℕ) (known after last : Option Contents) (parts : Option Parts) (taken : Bool) (number : ℕ) (n b g m : NodeView K)
    → taken ≡ false → IsTaken taken known n.parts.table key → number ≡ n.setup.number
    → b ≡ over b.keeper n → g ≡ with_gain b g.keeper key (length bytes) → OnOk r (m ≡ with_status g m.keeper key number true) → after ≡ with_content known parts key bytes → last ≡ after
    → OnOk r (IsPlaced key bytes known parts last n m)
is_placed {K} (Ok x) key bytes known after last parts taken number n b g m free told own is gained ok content same = record {
  taken = taken;
  told = told;
  node = ok ∙ ap (λ (v : NodeView K). with_status v m.keeper key number true) (gained_over n b g key (length bytes) is gained)
      ∙ ap (λ (i : ℕ). with_status (with_gain n g.keeper key (length bytes)) m.keeper key i true) own
      ∙ ap (λ (t : Bool). if t then over m.keeper n else with_placed n m.keeper key (length bytes)) (sym free);
  contents = same ∙ content ∙ ap (λ (t : Bool). if t then known else with_content known parts key bytes) (sym free);
}
is_placed (Err e) key bytes known after last parts taken number n b g m free told own is gained ok content same = tt

-- where the content was there or being filled, nothing was done
pub taken_placed : {K : Type 0} (taken : Bool) (key bytes : List ℕ) (known known' : Option Contents) (parts : Option Parts) (n m : NodeView K) → taken ≡ true → IsTaken taken known n.parts.table key → m ≡ over m.keeper n → known' ≡ known
    → IsPlaced key bytes known parts known' n m
taken_placed {K} taken key bytes known known' parts n m is told node same = record {
  taken = taken;
  told = told;
  node = node ∙ ap (λ (b : Bool). if b then over m.keeper n else with_placed n m.keeper key (length bytes)) (sym is);
  contents = same ∙ ap (λ (b : Bool). if b then known else with_content known parts key bytes) (sym is);
}
