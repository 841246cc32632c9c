-- The calls of a step that places a content or a part.
use Rattle.std.proofs.Common.{◌≡◌, ℕ, ◌<◌, Bool, true, List, [], ◌∷◌, ◌++◌, length, Option, None, Result, Ok, Err, OnOk, IfErr, ap, ◌∙◌, false, ◌||◌, if◌then◌else◌, Some, OnErr, bytes_eq, is_some, refl, subst}
use Rattle.annex_base.specs.declared.kinds.Call.{Call}
use Rattle.annex_base.specs.declared.kinds.Call.TheVariants.{Append, Commit, DropPart, Has, PutFile}
use Rattle.object_store.specs.Stores.{Contents, Parts, with_at}
use Rattle.content_lock.specs.CallsMade.{MakesCalls}
use Rattle.run_data.specs.Histories.{most_entries}
use Rattle.node_past.specs.declared.past.Past.{Past}
use Rattle.node_past.specs.declared.refused.NodeRefused.{NodeRefused}
use Rattle.node_past.specs.Calls.{Makes, StopsIn}
use Rattle.node_past.specs.Pasts.{IsReady, SamePast, FailsFor}
use Rattle.node_past.proofs.CallLemmas.{Failing, makes_then, stops_before, stops_early, stops_then}
use Rattle.std.specs.Option.{option_map}
use Rattle.annex_base.specs.declared.kinds.Call.TheVariants as calls
use Rattle.annex_base.proofs.Conditions.{bytes_eq-refl}
use Rattle.annex_base.proofs.Functions.{funext}
use Rattle.content_lock.specs.Rows.{Rows, is_filling}
use Rattle.run_data.specs.declared.entry.By.TheVariants.{Script}
use Rattle.node_model.specs.AnyTime.{is_scripts}
use Rattle.node_past.specs.declared.refused.NodeRefused.TheVariants as refusals
use Rattle.store_entries.specs.Calls.{StopsEarly, is_early, parts_at, to_place_part}
use Rattle.store_entries.specs.Placing.{IsTaken}
use Rattle.node_past.proofs.PastLemmas.{fails_after}

-- ---- room for an entry

-- a past that was made ready had room
pub had_room : {X : Type 0} (r : Result X NodeRefused) (was now : Past) → SamePast was now → IsReady now → OnOk r (length was.history.items < most_entries)
had_room (Ok x) was now same ready = subst (λ (m : ℕ). m < most_entries) (now.history.ok.0 ∙ ap length same.history) ready.few
had_room (Err e) was now same ready = tt

-- ---- the part by value

put_at : (b : Bool) (x y z bytes : List ℕ) → x ≡ bytes → (if b then x else (if b then y else z)) ≡ (if b then bytes else z)
put_at true x y z bytes is = is
put_at false x y z bytes is = refl

-- a part that is put in place of another
put_again : (f : Parts) (key x y bytes : List ℕ) → x ≡ bytes → with_at (with_at f key y) key x ≡ with_at f key bytes
put_again f key x y bytes is = funext (with_at (with_at f key y) key x) (with_at f key bytes) (λ k. put_at (bytes_eq key k) x y (f k) bytes is)

-- bytes that are put at the end of an empty part
pub part_put : (key bytes : List ℕ) (p p1 p2 : Option Parts) → p1 ≡ option_map (λ (f : Parts). with_at f key []) p → p2 ≡ option_map (λ (f : Parts). with_at f key (f key ++ bytes)) p1 → p2 ≡ option_map (λ (f : Parts). with_at f key bytes) p
part_put key bytes None p1 p2 first second = second ∙ ap (option_map (λ (f : Parts). with_at f key (f key ++ bytes))) first
part_put key bytes (Some f) p1 p2 first second =
    second ∙ (ap (option_map (λ (f : Parts). with_at f key (f key ++ bytes))) first
    ∙ ap (λ (g : Parts). Some g) (put_again f key ((if bytes_eq key key then [] else f key) ++ bytes) [] bytes (ap (λ (b : Bool). (if b then [] else f key) ++ bytes) (bytes_eq-refl key))))

-- a part that is made empty
pub part_emptied : (key bytes : List ℕ) (p p1 p2 : Option Parts) → p1 ≡ option_map (λ (f : Parts). with_at f key bytes) p → p2 ≡ option_map (λ (f : Parts). with_at f key []) p1 → p2 ≡ option_map (λ (f : Parts). with_at f key []) p
part_emptied key bytes None p1 p2 first second = second ∙ ap (option_map (λ (f : Parts). with_at f key [])) first
part_emptied key bytes (Some f) p1 p2 first second =
    second ∙ (ap (option_map (λ (f : Parts). with_at f key [])) first ∙ ap (λ (g : Parts). Some g) (put_again f key [] bytes [] refl))

pub put_later : {X : Type 0} (r : Result X NodeRefused) (key bytes : List ℕ) (p p1 p2 : Option Parts) → p1 ≡ option_map (λ (f : Parts). with_at f key []) p → OnOk r (p2 ≡ option_map (λ (f : Parts). with_at f key (f key ++ bytes)) p1) → OnOk r (p2 ≡ option_map (λ (f : Parts). with_at f key bytes) p)
put_later (Ok x) key bytes p p1 p2 first second = part_put key bytes p p1 p2 first second
put_later (Err e) key bytes p p1 p2 first second = tt

-- the parts at the calls
at_look : (key bytes : List ℕ) (p : Option Parts) → p ≡ option_map (parts_at calls.Has key bytes) p
at_look key bytes None = refl
at_look key bytes (Some f) = refl

at_drop : (key bytes : List ℕ) (p : Option Parts) → p ≡ option_map (parts_at calls.DropPart key bytes) p
at_drop key bytes None = refl
at_drop key bytes (Some f) = refl

at_append : (key bytes : List ℕ) (p : Option Parts) → option_map (λ (f : Parts). with_at f key []) p ≡ option_map (parts_at calls.Append key bytes) p
at_append key bytes None = refl
at_append key bytes (Some f) = refl

-- ---- stops before the content

pub early_scripts : (call : Call) → is_early call ≡ true → is_scripts call ≡ true
early_scripts calls.Has early = refl
early_scripts calls.DropPart early = refl
early_scripts calls.Append early = refl
early_scripts call early = absurd cc

-- the part couldn't be dropped, or nothing appended to it
pub drop_stops : {X : Type 0} (r : Result X NodeRefused) (key bytes : List ℕ) (ps ps' : Option Parts) (failing failing' : Failing) (was now : Past) → IfErr r (λ e. FailsFor Script e calls.DropPart was now) → Makes (calls.DropPart ∷ []) calls.DropPart r failing failing' → ps' ≡ ps
    → IfErr r (λ e. StopsEarly (calls.DropPart ∷ calls.Append ∷ []) key bytes ps ps' failing failing' e was now)
drop_stops (Ok x) key bytes ps ps' failing failing' was now fails made same = tt
drop_stops (Err e) key bytes ps ps' failing failing' was now fails made same = record {
  call = calls.DropPart;
  early = refl;
  calls = stops_before (calls.DropPart ∷ []) (calls.Append ∷ []) calls.DropPart e failing failing' made;
  fails = fails;
  parts = same ∙ at_drop key bytes ps;
}

pub append_stops : {X : Type 0} (r : Result X NodeRefused) (key bytes : List ℕ) (ps mid ps' : Option Parts) (failing between failing' : Failing) (was half now : Past) → SamePast was half → MakesCalls (calls.DropPart ∷ []) None failing between → mid ≡ option_map (λ (f : Parts). with_at f key []) ps
    → IfErr r (λ e. FailsFor Script e calls.Append half now) → Makes (calls.Append ∷ []) calls.Append r between failing' → OnErr r (ps' ≡ mid)
    → IfErr r (λ e. StopsEarly (calls.DropPart ∷ calls.Append ∷ []) key bytes ps ps' failing failing' e was now)
append_stops (Ok x) key bytes ps mid ps' failing between failing' was half now same dropped empty fails made left = tt
append_stops (Err e) key bytes ps mid ps' failing between failing' was half now same dropped empty fails made left = record {
  call = calls.Append;
  early = refl;
  calls = stops_then (calls.DropPart ∷ []) (calls.Append ∷ []) calls.Append e failing between failing' dropped made;
  fails = fails_after Script e calls.Append was half now same fails;
  parts = left ∙ (empty ∙ at_append key bytes ps);
}

-- both were made
pub both_made : {X : Type 0} (r : Result X NodeRefused) (failing between failing' : Failing) → MakesCalls (calls.DropPart ∷ []) None failing between → Makes (calls.Append ∷ []) calls.Append r between failing' → OnOk r (MakesCalls (calls.DropPart ∷ calls.Append ∷ []) None failing failing')
both_made (Ok x) failing between failing' dropped made = makes_then (calls.DropPart ∷ []) (calls.Append ∷ []) None failing between failing' dropped made
both_made (Err e) failing between failing' dropped made = tt

-- ---- whether the content is there

-- as far as the store tells it is there or being filled, or isn't
taken_told : (cs : Option Contents) (rows : Rows) (key : List ℕ) → (taken : Bool) × IsTaken taken cs rows key
taken_told None rows key = (false, λ c told. absurd (none_is c told))
  where
    none_is : (c : Contents) → ◌≡◌ {A = Option Contents} None (Some c) → ⊥
    none_is c told = absurd cc
taken_told (Some f) rows key = (is_some (f key) || is_filling rows key, λ c told. ap (λ (g : Contents). is_some (g key) || is_filling rows key) (some_is f c told))
  where
    some_is : (f c : Contents) → ◌≡◌ {A = Option Contents} (Some f) (Some c) → f ≡ c
    some_is f c told = cc

-- a stop of a step that first looks whether it is
abbrev pub StopsTold : List ℕ → List ℕ → Rows → Option Contents → Option Parts → Option Parts → Failing → Failing → NodeRefused → Past → Past → Type 0
StopsTold key bytes rows cs ps ps' failing failing' e was now = (taken : Bool) × IsTaken taken cs rows key × StopsEarly (to_place_part taken) key bytes ps ps' failing failing' e was now

look_first : (taken : Bool) (e : NodeRefused) (before after : Failing) → StopsIn (calls.Has ∷ []) calls.Has e before after → StopsIn (to_place_part taken) calls.Has e before after
look_first true e before after it = it
look_first false e before after it = stops_before (calls.Has ∷ []) (calls.DropPart ∷ calls.Append ∷ []) calls.Has e before after it

-- the look failed, or there was no room before it
pub look_stops : {X : Type 0} (r : Result X NodeRefused) (key bytes : List ℕ) (rows : Rows) (cs : Option Contents) (ps ps' : Option Parts) (failing failing' : Failing) (was now : Past) → IfErr r (λ e. FailsFor Script e calls.Has was now) → Makes (calls.Has ∷ []) calls.Has r failing failing' → ps' ≡ ps
    → IfErr r (λ e. StopsTold key bytes rows cs ps ps' failing failing' e was now)
look_stops (Ok x) key bytes rows cs ps ps' failing failing' was now fails made same = tt
look_stops (Err e) key bytes rows cs ps ps' failing failing' was now fails made same =
    let t = taken_told cs rows key in
    (t.0, t.1, record { call = calls.Has; early = refl; calls = look_first t.0 e failing failing' made; fails = fails; parts = same ∙ at_look key bytes ps })

-- there was no room before it
pub ready_stops : (e : NodeRefused) (key bytes : List ℕ) (rows : Rows) (cs : Option Contents) (ps : Option Parts) (failing : Failing) (was now : Past) → FailsFor Script e calls.Has was now → (e ≡ refusals.StoreFault → ⊥)
    → StopsTold key bytes rows cs ps ps failing failing e was now
ready_stops e key bytes rows cs ps failing was now fails well =
    let t = taken_told cs rows key in
    (t.0, t.1, record { call = calls.Has; early = refl; calls = stops_early (to_place_part t.0) calls.Has e failing failing well refl; fails = fails; parts = at_look key bytes ps })

-- the look said that it isn't there, and the step stopped later
pub behind_look : (e : NodeRefused) (taken : Bool) (key bytes : List ℕ) (rows : Rows) (cs : Option Contents) (ps mid ps' : Option Parts) (failing between failing' : Failing) (was half now : Past) → taken ≡ false → IsTaken taken cs rows key → SamePast was half → mid ≡ ps
    → MakesCalls (calls.Has ∷ []) None failing between → StopsEarly (calls.DropPart ∷ calls.Append ∷ []) key bytes mid ps' between failing' e half now → StopsTold key bytes rows cs ps ps' failing failing' e was now
behind_look e taken key bytes rows cs ps mid ps' failing between failing' was half now free told same left looked stops = (
  false,
  subst (λ (b : Bool). IsTaken b cs rows key) free told,
  record {
    call = stops.call;
    early = stops.early;
    calls = stops_then (calls.Has ∷ []) (calls.DropPart ∷ calls.Append ∷ []) stops.call e failing between failing' looked stops.calls;
    fails = fails_after Script e stops.call was half now same stops.fails;
    parts = stops.parts ∙ ap (option_map (parts_at stops.call key bytes)) left;
  },
)

-- a step that was made ready first
pub told_later : {X : Type 0} (r : Result X NodeRefused) (key bytes : List ℕ) (rows : Rows) (cs : Option Contents) (ps ps' : Option Parts) (failing failing' : Failing) (was half now : Past) → SamePast was half
    → IfErr r (λ e. StopsTold key bytes rows cs ps ps' failing failing' e half now) → IfErr r (λ e. StopsTold key bytes rows cs ps ps' failing failing' e was now)
told_later (Ok x) key bytes rows cs ps ps' failing failing' was half now same stops = tt
told_later (Err e) key bytes rows cs ps ps' failing failing' was half now same stops = (
  stops.0,
  stops.1,
  record { call = stops.2.call; early = stops.2.early; calls = stops.2.calls; fails = fails_after Script e stops.2.call was half now same stops.2.fails; parts = stops.2.parts },
)
