-- The calls of a step that places a content or a part, and what it has done where it stops.
use Rattle.std.proofs.Common.{◌≡◌, ℕ, Bool, true, false, if◌then◌else◌, List, [], ◌∷◌, length, Option, Some, None, Result, Ok, Err, OnOk, IfOk, IfErr, refl, sym, ap, ◌∙◌, subst}
use Rattle.std.specs.Option.{option_map}
use Rattle.annex_base.specs.declared.kinds.Call.{Call}
use Rattle.annex_base.specs.declared.kinds.Call.TheVariants as calls
use Rattle.object_store.specs.Stores.{Contents, Parts, with_at}
use Rattle.content_lock.specs.Rows.{Rows}
use Rattle.run_data.specs.declared.entry.By.TheVariants.{Script}
use Rattle.node_past.specs.declared.refused.NodeRefused.{NodeRefused}
use Rattle.node_past.specs.declared.refused.NodeRefused.TheVariants as refusals
use Rattle.content_lock.specs.CallsMade.{MakesCalls}
use Rattle.repo_node.specs.Calls.{IsDoneBy, StopsAt, contents_at, node_at}
use Rattle.node_past.specs.Calls.{Makes, StopsIn}
use Rattle.store_entries.specs.Calls.{is_early, parts_at, to_place, to_place_part}
use Rattle.node_steps.specs.Nodes.{NodeView, beside}
use Rattle.store_entries.specs.Placing.{IsTaken, HasPart}
use Rattle.node_steps.specs.Parts.{PartsView}
use Rattle.repo_node.specs.Placing.{with_content, PartAfter, without_said}
use Rattle.node_ledger.specs.Placing.{with_gain, StopsBefore}
use Rattle.node_ledger.specs.Refusals.{RefusesSo}
use Rattle.node_ledger.specs.Walks.{over}
use Rattle.node_past.proofs.CallLemmas.{Failing, makes_then, stops_before, stops_then}
use Rattle.store_entries.proofs.PlaceCallLemmas.{part_emptied, early_scripts}
use Rattle.node_ledger.specs.Ledgers.{LedgerView}
use Rattle.node_ledger.proofs.GainLemmas.{LedgerStops}
use Rattle.node_steps.proofs.KeptLemmas.{refuses_beside}

-- ---- the parts at a call

at_commit : (key bytes : List ℕ) (p : Option Parts) → option_map (λ (f : Parts). with_at f key bytes) p ≡ option_map (parts_at calls.Commit key bytes) p
at_commit key bytes None = refl
at_commit key bytes (Some f) = refl

at_put : (key bytes : List ℕ) (p : Option Parts) → option_map (λ (f : Parts). with_at f key []) p ≡ option_map (parts_at calls.PutFile key bytes) p
at_put key bytes None = refl
at_put key bytes (Some f) = refl

pub early_node : {K : Type 0} (call : Call) (key bytes : List ℕ) (n : NodeView K) → is_early call ≡ true → node_at call key bytes n ≡ n
early_node calls.PutFile key bytes n early = absurd cc
early_node call key bytes n early = refl

pub early_contents : (call : Call) (key bytes : List ℕ) (cs : Option Contents) (ps : Option Parts) → is_early call ≡ true → contents_at call key bytes cs ps ≡ cs
early_contents calls.PutFile key bytes cs ps early = absurd cc
early_contents call key bytes cs ps early = refl

-- ---- the whole step

-- the calls of a step that places a content go on behind those of one that replaces a part
more_calls : (taken : Bool) (call : Call) (e : NodeRefused) (before after : Failing) → StopsIn (to_place_part taken) call e before after → StopsIn (to_place taken) call e before after
more_calls true call e before after it = it
more_calls false call e before after it = stops_before (to_place_part false) (calls.Commit ∷ calls.PutFile ∷ []) call e before after it

pub bring_stops : {K X : Type 0} (r : Result X NodeRefused) (key bytes : List ℕ) (cs cs' : Option Contents) (ps ps' : Option Parts) (failing failing' : Failing) (was now : NodeView K)
    → IfErr r (λ e. StopsAt to_place_part key bytes cs cs' ps ps' failing failing' e was now) → IfErr r (λ e. StopsAt to_place key bytes cs cs' ps ps' failing failing' e was now)
bring_stops (Ok x) key bytes cs cs' ps ps' failing failing' was now it = tt
bring_stops (Err e) key bytes cs cs' ps ps' failing failing' was now it = record {
  call = it.call;
  scripts = it.scripts;
  taken = it.taken;
  told = it.told;
  calls = more_calls it.taken it.call e failing failing' it.calls;
  refused = it.refused;
  contents = it.contents;
  parts = it.parts;
}

-- a node that makes the key's part its content
refused_over : {K : Type 0} (k : K) (n m : NodeView K) (e : NodeRefused) (call : Call) → RefusesSo e call (over k n) m → RefusesSo e call n m
refused_over k n m refusals.Full call h = h
refused_over k n m refusals.StoreFault call h = h
refused_over k n m (refusals.BadBundle at) call h = h
refused_over k n m refusals.NoMemory call h = h

refused_gain : {K : Type 0} (k : K) (n m : NodeView K) (key : List ℕ) (size : ℕ) (e : NodeRefused) (call : Call) → RefusesSo e call (with_gain n k key size) m → RefusesSo e call (with_gain n n.keeper key size) m
refused_gain k n m key size refusals.Full call h = h
refused_gain k n m key size refusals.StoreFault call h = h
refused_gain k n m key size (refusals.BadBundle at) call h = h
refused_gain k n m key size refusals.NoMemory call h = h

-- the bytes are the key's part, and no call has failed so far
pub record IsBrought {K : Type 0} (key bytes : List ℕ) (cs cs' : Option Contents) (ps ps' : Option Parts) (failing failing' : Failing) (was now : NodeView K) : Type 0 where
  pub told : IsTaken false cs was.parts.table key
  pub node : now ≡ over now.keeper was
  pub calls : MakesCalls (to_place_part false) None failing failing'
  pub contents : cs' ≡ cs
  pub parts : ps' ≡ option_map (λ (f : Parts). with_at f key bytes) ps

pub is_brought : {K : Type 0} (taken : Bool) (key bytes : List ℕ) (cs cs' : Option Contents) (ps ps' : Option Parts) (failing failing' : Failing) (was now : NodeView K) → taken ≡ false → IsTaken taken cs was.parts.table key
    → now ≡ over now.keeper was → MakesCalls (to_place_part taken) None failing failing' → cs' ≡ cs → (taken ≡ false → ps' ≡ option_map (λ (f : Parts). with_at f key bytes) ps) → IsBrought key bytes cs cs' ps ps' failing failing' was now
is_brought taken key bytes cs cs' ps ps' failing failing' was now free told is made same put = record {
  told = subst (λ (b : Bool). IsTaken b cs was.parts.table key) free told;
  node = is;
  calls = subst (λ (b : Bool). MakesCalls (to_place_part b) None failing failing') free made;
  contents = same;
  parts = put free;
}

pub commit_stops : {K : Type 0} (e : NodeRefused) (key bytes : List ℕ) (cs c1 c2 : Option Contents) (ps p1 p2 : Option Parts) (f f1 f2 : Failing) (n b m : NodeView K) → IsBrought key bytes cs c1 ps p1 f f1 n b
    → RefusesSo e calls.Commit b m → StopsIn (calls.Commit ∷ []) calls.Commit e f1 f2 → c2 ≡ c1 → p2 ≡ p1 → StopsAt to_place key bytes cs c2 ps p2 f f2 e n m
commit_stops {K} e key bytes cs c1 c2 ps p1 p2 f f1 f2 n b m it refused stops same left = record {
  call = calls.Commit;
  scripts = refl;
  taken = false;
  told = it.told;
  calls = stops_then (to_place_part false) (calls.Commit ∷ calls.PutFile ∷ []) calls.Commit e f f1 f2 it.calls (stops_before (calls.Commit ∷ []) (calls.PutFile ∷ []) calls.Commit e f1 f2 stops);
  refused = refused_over b.keeper n m e calls.Commit (subst (λ (v : NodeView K). RefusesSo e calls.Commit v m) it.node refused);
  contents = same ∙ it.contents;
  parts = left ∙ (it.parts ∙ at_commit key bytes ps);
}

-- the content has come
pub record IsGained {K : Type 0} (key bytes : List ℕ) (cs cs' : Option Contents) (ps ps' : Option Parts) (failing failing' : Failing) (was now : NodeView K) : Type 0 where
  pub told : IsTaken false cs was.parts.table key
  pub node : now ≡ with_gain was now.keeper key (length bytes)
  pub calls : MakesCalls (calls.Has ∷ calls.DropPart ∷ calls.Append ∷ calls.Commit ∷ []) None failing failing'
  pub contents : cs' ≡ with_content cs ps key bytes
  pub parts : ps' ≡ option_map (λ (f : Parts). with_at f key []) ps

pub is_gained : {K : Type 0} (key bytes : List ℕ) (cs c1 c2 : Option Contents) (ps p1 p2 : Option Parts) (f f1 f2 : Failing) (n b g : NodeView K) → IsBrought key bytes cs c1 ps p1 f f1 n b
    → g ≡ with_gain b g.keeper key (length bytes) → MakesCalls (calls.Commit ∷ []) None f1 f2 → c2 ≡ with_content cs ps key bytes → p2 ≡ option_map (λ (p : Parts). with_at p key []) p1 → IsGained key bytes cs c2 ps p2 f f2 n g
is_gained {K} key bytes cs c1 c2 ps p1 p2 f f1 f2 n b g it gained made content empty = record {
  told = it.told;
  node = gained ∙ ap (λ (v : NodeView K). with_gain v g.keeper key (length bytes)) it.node;
  calls = makes_then (to_place_part false) (calls.Commit ∷ []) None f f1 f2 it.calls made;
  contents = content;
  parts = part_emptied key bytes ps p1 p2 it.parts empty;
}

-- its line was refused
pub line_stops : {K : Type 0} (r : Result (Unit {0}) NodeRefused) (key bytes : List ℕ) (cs c2 c3 : Option Contents) (ps p2 p3 : Option Parts) (f f2 f3 : Failing) (n g m : NodeView K) → IsGained key bytes cs c2 ps p2 f f2 n g
    → IfErr r (λ e. RefusesSo e calls.PutFile g m) → Makes (calls.PutFile ∷ []) calls.PutFile r f2 f3 → c3 ≡ c2 → p3 ≡ p2 → IfErr r (λ e. StopsAt to_place key bytes cs c3 ps p3 f f3 e n m)
line_stops (Ok x) key bytes cs c2 c3 ps p2 p3 f f2 f3 n g m it refused made same left = tt
line_stops {K} (Err e) key bytes cs c2 c3 ps p2 p3 f f2 f3 n g m it refused made same left = record {
  call = calls.PutFile;
  scripts = refl;
  taken = false;
  told = it.told;
  calls = stops_then (calls.Has ∷ calls.DropPart ∷ calls.Append ∷ calls.Commit ∷ []) (calls.PutFile ∷ []) calls.PutFile e f f2 f3 it.calls made;
  refused = refused_gain g.keeper n m key (length bytes) e calls.PutFile (subst (λ (v : NodeView K). RefusesSo e calls.PutFile v m) it.node refused);
  contents = same ∙ it.contents;
  parts = left ∙ (it.parts ∙ at_put key bytes ps);
}

-- or it is done
pub line_done : {K : Type 0} (r : Result (Unit {0}) NodeRefused) (key bytes : List ℕ) (cs c2 : Option Contents) (ps p2 p3 : Option Parts) (f f2 f3 : Failing) (n g : NodeView K) → IsGained key bytes cs c2 ps p2 f f2 n g
    → Makes (calls.PutFile ∷ []) calls.PutFile r f2 f3 → p3 ≡ p2 → OnOk r (IsDoneBy to_place key [] n.parts.table cs ps p3 f f3)
line_done (Ok x) key bytes cs c2 ps p2 p3 f f2 f3 n g it made left = record {
  taken = false;
  told = it.told;
  calls = makes_then (calls.Has ∷ calls.DropPart ∷ calls.Append ∷ calls.Commit ∷ []) (calls.PutFile ∷ []) None f f2 f3 it.calls made;
  parts = left ∙ it.parts;
}
line_done (Err e) key bytes cs c2 ps p2 p3 f f2 f3 n g it made left = tt

-- ---- done

-- where the content was there or being filled, nothing was done
same_calls : (taken : Bool) → taken ≡ true → to_place_part taken ≡ to_place taken
same_calls true is = refl
same_calls false is = absurd cc

pub taken_done : (taken : Bool) (key bytes : List ℕ) (rows : Rows) (cs : Option Contents) (ps ps' : Option Parts) (failing failing' : Failing) → taken ≡ true → IsTaken taken cs rows key → MakesCalls (to_place_part taken) None failing failing' → (taken ≡ true → ps' ≡ ps)
    → IsDoneBy to_place key bytes rows cs ps ps' failing failing'
taken_done taken key bytes rows cs ps ps' failing failing' is told made same = record {
  taken = taken;
  told = told;
  calls = subst (λ (cs : List Call). MakesCalls cs None failing failing') (same_calls taken is) made;
  parts = same is ∙ ap (λ (b : Bool). if b then ps else option_map (λ (p : Parts). with_at p key bytes) ps) (sym is);
}

-- a node whose ledger was to be brought the bytes, and was refused
pub brought_stops : {K X : Type 0} (r : Result X NodeRefused) (p : PartsView) (l b : LedgerView K) (key bytes : List ℕ) (rows : Rows) (cs cs' : Option Contents) (ps ps' : Option Parts) (failing failing' : Failing) → rows ≡ p.table → cs' ≡ cs
    → IfErr r (λ e. LedgerStops key bytes rows cs ps ps' failing failing' e l b) → IfErr r (λ e. StopsAt to_place_part key bytes cs cs' ps ps' failing failing' e (beside p l) (beside p b))
brought_stops (Ok x) p l b key bytes rows cs cs' ps ps' failing failing' at same stops = tt
brought_stops {K} (Err e) p l b key bytes rows cs cs' ps ps' failing failing' at same stops =
    let call = stops.2.call in
    record {
      call = call;
      scripts = early_scripts call stops.2.early;
      taken = stops.0;
      told = subst (λ (x : Rows). IsTaken stops.0 cs x key) at stops.1;
      calls = stops.2.calls;
      refused = subst (λ (n : NodeView K). RefusesSo e call n (beside p b)) (sym (early_node call key bytes (beside p l) stops.2.early)) (refuses_beside p Script e call l b stops.2.fails);
      contents = same ∙ sym (early_contents call key bytes cs ps stops.2.early);
      parts = stops.2.parts;
    }

pub stops_beside : {K X : Type 0} (r : Result X NodeRefused) (p : PartsView) (l b : LedgerView K) → IfErr r (λ e. StopsBefore e l b) → IfErr r (λ e. StopsBefore e (beside p l) (beside p b))
stops_beside (Ok x) p l b stops = tt
stops_beside (Err e) p l b stops = record { call = stops.call; scripts = stops.scripts; refused = refuses_beside p Script e stops.call l b stops.refused }

-- where it was brought them, or they were there
pub part_after : (taken : Bool) (key bytes : List ℕ) (ps ps' : Option Parts) → (taken ≡ true → ps' ≡ ps) → (taken ≡ false → HasPart key bytes ps ps') → PartAfter taken key bytes ps ps'
part_after true key bytes ps ps' left part = left refl
part_after false key bytes ps ps' left part = part refl

put_after : (taken : Bool) (key bytes : List ℕ) (ps ps' : Option Parts) → (taken ≡ true → ps' ≡ ps) → (taken ≡ false → ps' ≡ option_map (λ (p : Parts). with_at p key bytes) ps) → ps' ≡ (if taken then ps else option_map (λ (p : Parts). with_at p key bytes) ps)
put_after true key bytes ps ps' left put = left refl
put_after false key bytes ps ps' left put = put refl

pub brought_done : (taken : Bool) (key bytes : List ℕ) (rows : Rows) (cs : Option Contents) (ps ps' : Option Parts) (failing failing' : Failing) → IsTaken taken cs rows key → MakesCalls (to_place_part taken) None failing failing' → (taken ≡ true → ps' ≡ ps)
    → (taken ≡ false → ps' ≡ option_map (λ (p : Parts). with_at p key bytes) ps) → IsDoneBy to_place_part key bytes rows cs ps ps' failing failing'
brought_done taken key bytes rows cs ps ps' failing failing' told made left put = record { taken = taken; told = told; calls = made; parts = put_after taken key bytes ps ps' left put }

-- an answer without what an Ok says
pub on_without : (r : Result Bool NodeRefused) (s : Result (Unit {0}) NodeRefused) (P : Type 0) → s ≡ without_said r → OnOk r P → OnOk s P
on_without (Ok taken) s P is holds = subst (λ (x : Result (Unit {0}) NodeRefused). OnOk x P) (sym is) holds
on_without (Err e) s P is holds = subst (λ (x : Result (Unit {0}) NodeRefused). OnOk x P) (sym is) tt

pub err_without : (r : Result Bool NodeRefused) (s : Result (Unit {0}) NodeRefused) (P : NodeRefused → Type 0) → s ≡ without_said r → IfErr r P → IfErr s P
err_without (Ok taken) s P is holds = subst (λ (x : Result (Unit {0}) NodeRefused). IfErr x P) (sym is) tt
err_without (Err e) s P is holds = subst (λ (x : Result (Unit {0}) NodeRefused). IfErr x P) (sym is) holds

err_so : (e d : NodeRefused) → ◌≡◌ {A = Result (Unit {0}) NodeRefused} (Err e) (Err d) → ◌≡◌ {A = Result Bool NodeRefused} (Err e) (Err d)
err_so e d is = cc

ok_err : (d : NodeRefused) → ◌≡◌ {A = Result (Unit {0}) NodeRefused} (Ok tt) (Err d) → ⊥
ok_err d is = cc

pub cause_without : (r : Result Bool NodeRefused) (s : Result (Unit {0}) NodeRefused) (d : NodeRefused) {P : Type 0} → s ≡ without_said r → (r ≡ Err d → P) → s ≡ Err d → P
cause_without (Ok taken) s d is cause failed = absurd (ok_err d (sym is ∙ failed))
cause_without (Err e) s d is cause failed = cause (err_so e d (sym is ∙ failed))

-- what a step that was brought the bytes says then
pub over_beside : {K X : Type 0} (r : Result X NodeRefused) (p : PartsView) (l b : LedgerView K) → OnOk r (b ≡ over b.keeper l) → OnOk r (beside p b ≡ over b.keeper (beside p l))
over_beside (Ok x) p l b ok = ap (beside p) ok
over_beside (Err e) p l b ok = tt

pub part_of : (r : Result Bool NodeRefused) (key bytes : List ℕ) (rows rows' : Rows) (cs : Option Contents) (ps ps' : Option Parts) → rows' ≡ rows → IfOk r (λ taken. IsTaken taken cs rows' key) → IfOk r (λ taken. taken ≡ true → ps' ≡ ps) → IfOk r (λ taken. taken ≡ false → HasPart key bytes ps ps')
    → OnOk r ((taken : Bool) × IsTaken taken cs rows key × PartAfter taken key bytes ps ps')
part_of (Ok taken) key bytes rows rows' cs ps ps' at told left part = (taken, subst (λ (x : Rows). IsTaken taken cs x key) at told, part_after taken key bytes ps ps' left part)
part_of (Err e) key bytes rows rows' cs ps ps' at told left part = tt

pub done_of : (r : Result Bool NodeRefused) (key bytes : List ℕ) (rows rows' : Rows) (cs : Option Contents) (ps ps' : Option Parts) (failing failing' : Failing) → rows' ≡ rows → IfOk r (λ taken. IsTaken taken cs rows' key) → IfOk r (λ taken. MakesCalls (to_place_part taken) None failing failing')
    → IfOk r (λ taken. taken ≡ true → ps' ≡ ps) → IfOk r (λ taken. taken ≡ false → ps' ≡ option_map (λ (p : Parts). with_at p key bytes) ps) → OnOk r (IsDoneBy to_place_part key bytes rows cs ps ps' failing failing')
done_of (Ok taken) key bytes rows rows' cs ps ps' failing failing' at told made left put = brought_done taken key bytes rows cs ps ps' failing failing' (subst (λ (x : Rows). IsTaken taken cs x key) at told) made left put
done_of (Err e) key bytes rows rows' cs ps ps' failing failing' at told made left put = tt
