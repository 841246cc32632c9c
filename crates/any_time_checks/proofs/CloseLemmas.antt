-- The Close frames of ends, one after the other.
use Rattle.std.proofs.Common.{◌≡◌, ℕ, zero, suc, ◌+◌, ◌-◌, ◌<◌, ◌≤◌, Bool, true, false, List, [], ◌∷◌, ◌++◌, length, Option, Some, None, refl, sym, ap, subst, ◌∙◌, arith, append_assoc, inl, inr, true≢false}
use Rattle.std.specs.Prelude.{◌&&◌, ◌==◌, flat_map, if◌then◌else◌, nat_lt, not}
use Rattle.std.specs.List.{list_any, range_with_len}
use Rattle.std.proofs.lemmas.Bool.{and_from, and_parts, cases_Bool, eq-eqb, eqb-true}
use Rattle.std.proofs.lemmas.Bool.Decides.{nat_tests}
use Rattle.std.proofs.lemmas.List.Concat.{flat_map-append}
use Rattle.std.proofs.lemmas.List.Elements.{filter-append}
use Rattle.annex_base.specs.Bools.{same_bool}
use Rattle.annex_base.specs.Lists.{Each, Member}
use Rattle.annex_base.proofs.Conditions.{same_bool_is, same_bool_refl}
use Rattle.annex_base.proofs.Lists.{Each-append, Each-flat_map, Each-from_members, Each-member, Member-append_left, Member-append_right, Member-filter_from, Member-filter_parts, Member-flat_map, list_any_found, list_any_member}
use Rattle.annex_base.proofs.Numbers.{Member-range, range_below}
use Rattle.run_data.specs.declared.entry.FrameText.TheVariants.{Closing}
use Rattle.run_data.specs.declared.entry.FrameView.{FrameView}
use Rattle.node_model.specs.AnyTime.{all_ends, close_at, closes_all, ends_with}
use Rattle.node_model.specs.Ends.{End, EndName, frames}
use Rattle.node_model.specs.Evidence.{but}
use Rattle.node_model.specs.SetUp.{SetUp, others}
use Rattle.node_model.specs.State.{State}
use Rattle.state_ends.specs.Ends.{AreEndsOf, end_of}
use Rattle.state_ends.specs.declared.ends.Ends.{Ends}
use Rattle.step_judging.specs.Rules.{same_end}
use Rattle.step_judging.specs.Same.{same_frames}
use Rattle.step_effects.specs.Sendings.{rest_told}
use Rattle.any_time_checks.specs.Coming.{close_in, closes_with, is_there}
use Rattle.any_time_checks.proofs.FrameLemmas.{frames_back, same_tests}

-- ---- an end

pub open_end : (x : Ends) (a : EndName) (was : End) → was ≡ end_of x a → was.opened ≡ true → close_in x a ≡ frames a was (Closing ∷ [])
open_end x a was is opened =
    ap (λ (c : End). if c.opened then frames a c (Closing ∷ []) else []) (sym is) ∙ ap (λ (b : Bool). if b then frames a was (Closing ∷ []) else []) opened

pub shut_end : (x : Ends) (a : EndName) (was : End) → was ≡ end_of x a → was.opened ≡ false → close_in x a ≡ []
shut_end x a was is shut =
    ap (λ (c : End). if c.opened then frames a c (Closing ∷ []) else []) (sym is) ∙ ap (λ (b : Bool). if b then frames a was (Closing ∷ []) else []) shut

pub close_same : (x : Ends) (s : SetUp) (st : State) → AreEndsOf x st → (a : EndName) → close_at s st a ≡ close_in x a
close_same x s st are a = ap (λ (c : End). if c.opened then frames a c (Closing ∷ []) else []) (are.ends a)

-- ---- frames behind others

-- these frames are told first, and then those that are left
abbrev pub Parts : List FrameView → List FrameView → Option (List FrameView) → Type 0
Parts first sent rest = (more : List FrameView) → same_frames (first ++ more) sent ≡ rest_told more rest

pub both_parts : (first next sent rest : List FrameView) (last : Option (List FrameView)) → Parts first sent (Some rest) → Parts next rest last → Parts (first ++ next) sent last
both_parts first next sent rest last p q more = ap (λ fs. same_frames fs sent) (append_assoc first next more) ∙ p (next ++ more) ∙ q more

pub no_parts : (first next sent : List FrameView) → Parts first sent None → Parts (first ++ next) sent None
no_parts first next sent p more = ap (λ fs. same_frames fs sent) (append_assoc first next more) ∙ p (next ++ more)

append_none : (xs : List FrameView) → xs ++ [] ≡ xs
append_none [] = refl
append_none (x ∷ xs) = ap (λ ys. x ∷ ys) (append_none xs)

pub last_part : (first sent : List FrameView) (rest : Option (List FrameView)) → Parts first sent rest → Parts (first ++ []) sent rest
last_part first sent rest p more = ap (λ fs. same_frames (fs ++ more) sent) (append_none first) ∙ p more

pub peer_parts : (x : Ends) (peer : ℕ) (sent : List FrameView) (rest : Option (List FrameView)) → Parts (flat_map (close_in x) (ends_with peer true) ++ flat_map (close_in x) (ends_with peer false)) sent rest
    → Parts (closes_with x peer) sent rest
peer_parts x peer sent rest p more = ap (λ fs. same_frames (fs ++ more) sent) (flat_map-append (close_in x) (ends_with peer true) (ends_with peer false)) ∙ p more

-- ---- the other repositories

pub range_first : (p n : ℕ) → p < n → range_with_len p (n - p) ≡ p ∷ range_with_len (p + 1) (n - (p + 1))
range_first p n below = let same : n - p ≡ suc (n - (p + 1)) = omega (arith, below) in ap (range_with_len p) same

pub closes_first : (x : Ends) (number p n : ℕ) → p < n → flat_map (closes_with x) (but number (range_with_len p (n - p)))
    ≡ flat_map (closes_with x) (but number (p ∷ [])) ++ flat_map (closes_with x) (but number (range_with_len (p + 1) (n - (p + 1))))
closes_first x number p n below =
    ap (λ ps. flat_map (closes_with x) (but number ps)) (range_first p n below)
    ∙ ap (flat_map (closes_with x)) (filter-append (λ q. not (q == number)) (p ∷ []) (range_with_len (p + 1) (n - (p + 1))))
    ∙ flat_map-append (closes_with x) (but number (p ∷ [])) (but number (range_with_len (p + 1) (n - (p + 1))))

pub range_none : (p n : ℕ) → n ≤ p → range_with_len p (n - p) ≡ []
range_none p n past = let none : n - p ≡ 0 = omega (arith, past) in ap (range_with_len p) none

flat_flat : (f : EndName → List FrameView) (g : ℕ → List EndName) (xs : List ℕ) → flat_map f (flat_map g xs) ≡ flat_map (λ x. flat_map f (g x)) xs
flat_flat f g [] = refl
flat_flat f g (x ∷ xs) = flat_map-append f (g x) (flat_map g xs) ∙ ap (λ zs. flat_map f (g x) ++ zs) (flat_flat f g xs)

pub closes_all_same : (x : Ends) (s : SetUp) (st : State) (number count : ℕ) → AreEndsOf x st → s.number ≡ number → length s.repos ≡ count
    → flat_map (closes_with x) (but number (range_with_len 0 count)) ≡ closes_all s st
closes_all_same x s st number count are is many =
    ap (λ n. flat_map (closes_with x) (but n (range_with_len 0 count))) (sym is)
    ∙ ap (λ n. flat_map (closes_with x) (but s.number (range_with_len 0 n))) (sym many)
    ∙ sym (flat_flat (close_in x) (λ peer. ends_with peer true ++ ends_with peer false) (others s))
    ∙ (λ i. flat_map (λ a. sym (close_same x s st are a) i) (all_ends s))

-- ---- which ends there are

listed_slot : (peer : ℕ) (client : Bool) (slot : ℕ) → slot < 4 → Member (record { peer = peer; slot = slot; client = client }) (ends_with peer client)
listed_slot peer client zero low = inl refl
listed_slot peer client (suc zero) low = inr (inl refl)
listed_slot peer client (suc (suc zero)) low = inr (inr (inl refl))
listed_slot peer client (suc (suc (suc zero))) low = inr (inr (inr (inl refl)))
listed_slot peer client (suc (suc (suc (suc n)))) low = absurd (omega (arith, low))

listed_end : (a : EndName) → a.slot < 4 → Member a (ends_with a.peer true ++ ends_with a.peer false)
listed_end a low = elim (cases_Bool a.client) [
  | inl is ↦ Member-append_left (ends_with a.peer true) (ends_with a.peer false) a
      (subst (λ (c : Bool). Member (record { peer = a.peer; slot = a.slot; client = c }) (ends_with a.peer true)) (sym is) (listed_slot a.peer true a.slot low))
  | inr is ↦ Member-append_right (ends_with a.peer true) (ends_with a.peer false) a
      (subst (λ (c : Bool). Member (record { peer = a.peer; slot = a.slot; client = c }) (ends_with a.peer false)) (sym is) (listed_slot a.peer false a.slot low))
]

record IsListed (s : SetUp) (a : EndName) : Type 0 where
  peer : a.peer < length s.repos
  other : (a.peer == s.number) ≡ false
  slot : a.slot < 4

listed : (s : SetUp) (a : EndName) → IsListed s a → Member a (all_ends s)
listed s a is = Member-flat_map (λ peer. ends_with peer true ++ ends_with peer false) (others s) a.peer a
    (Member-filter_from (λ x. not (x == s.number)) (range_with_len 0 (length s.repos)) a.peer (Member-range 0 (length s.repos) a.peer (omega arith) (let known = is.peer in omega (arith, known))) (ap not is.other))
    (listed_end a is.slot)

not_true : (b : Bool) → not b ≡ true → b ≡ false
not_true true e = absurd (true≢false (sym e))
not_true false e = refl

ends_of_peer : (s : SetUp) (peer : ℕ) (client : Bool) → peer < length s.repos → (peer == s.number) ≡ false → Each (IsListed s) (ends_with peer client)
ends_of_peer s peer client known apart =
    let low : (n : ℕ) → n < 4 → IsListed s (record { peer = peer; slot = n; client = client }) = λ n low. record { peer = known; other = apart; slot = low } in
    (low 0 (omega arith), (low 1 (omega arith), (low 2 (omega arith), (low 3 (omega arith), tt))))

numbers : (s : SetUp) (a : EndName) → Member a (all_ends s) → IsListed s a
numbers s a among = Each-member (IsListed s) (all_ends s) a
    (Each-flat_map (IsListed s) (λ peer. ends_with peer true ++ ends_with peer false) (others s)
    (Each-from_members (λ peer. Each (IsListed s) (ends_with peer true ++ ends_with peer false)) (others s) (λ peer m.
    let parts = Member-filter_parts (λ x. not (x == s.number)) (range_with_len 0 (length s.repos)) peer m in
    let known = Each-member (λ x. x < length s.repos) (range_with_len 0 (length s.repos)) peer (range_below 0 (length s.repos) (length s.repos) (omega arith)) parts.0 in
    let apart = not_true (peer == s.number) parts.1 in
    Each-append (IsListed s) (ends_with peer true) (ends_with peer false) (ends_of_peer s peer true known apart) (ends_of_peer s peer false known apart))))
    among

same_name : (a b : EndName) → same_end a b ≡ true → a ≡ b
same_name a b same =
    let one = and_parts ((a.peer == b.peer) && (a.slot == b.slot)) (same_bool a.client b.client) same in
    let two = and_parts (a.peer == b.peer) (a.slot == b.slot) one.0 in
    let name : ℕ → ℕ → Bool → EndName = λ peer slot client. record { peer = peer; slot = slot; client = client } in
    ap (λ n. name n a.slot a.client) (eqb-true a.peer b.peer two.0) ∙ ap (λ n. name b.peer n a.client) (eqb-true a.slot b.slot two.1) ∙ ap (name b.peer b.slot) (same_bool_is a.client b.client one.1)

its_name : (a : EndName) → same_end a a ≡ true
its_name a = and_from ((a.peer == a.peer) && (a.slot == a.slot)) (same_bool a.client a.client) (and_from (a.peer == a.peer) (a.slot == a.slot) (eq-eqb a.peer a.peer refl) (eq-eqb a.slot a.slot refl)) (same_bool_refl a.client)

there : (s : SetUp) (a : EndName) → IsListed s a → is_there s.number (length s.repos) a ≡ true
there s a is =
    let known = is.peer in
    let low = is.slot in
    let first : nat_lt a.peer (length s.repos) ≡ true = grind (arith, nat_tests) in
    let last : nat_lt a.slot 4 ≡ true = grind (arith, nat_tests) in
    and_from (nat_lt a.peer (length s.repos) && not (a.peer == s.number)) (nat_lt a.slot 4) (and_from (nat_lt a.peer (length s.repos)) (not (a.peer == s.number)) first (ap not is.other)) last

stands : (s : SetUp) (a : EndName) → is_there s.number (length s.repos) a ≡ true → IsListed s a
stands s a is =
    let one = and_parts (nat_lt a.peer (length s.repos) && not (a.peer == s.number)) (nat_lt a.slot 4) is in
    let two = and_parts (nat_lt a.peer (length s.repos)) (not (a.peer == s.number)) one.0 in
    let first = two.0 in
    let last = one.1 in
    record { peer = grind (arith, nat_tests); other = not_true (a.peer == s.number) two.1; slot = grind (arith, nat_tests) }

pub ends_listed : (s : SetUp) (a : EndName) → list_any (same_end a) (all_ends s) ≡ is_there s.number (length s.repos) a
ends_listed s a = same_tests (list_any (same_end a) (all_ends s)) (is_there s.number (length s.repos) a)
    (λ some. let w = list_any_found (same_end a) (all_ends s) some in there s a (numbers s a (subst (λ (b : EndName). Member b (all_ends s)) (sym (same_name a w.0 w.2)) w.1)))
    (λ is. list_any_member (same_end a) (all_ends s) a (listed s a (stands s a is)) (its_name a))

-- ---- a close

-- the tests of a close are those of the rules
pub tells_close : (x : Ends) (s : SetUp) (st : State) (a : EndName) (was : End) (lines : Bool) (sent : List FrameView) → AreEndsOf x st → was ≡ end_of x a
    → (is_there s.number (length s.repos) a && was.opened && lines && same_frames (frames a was (Closing ∷ [])) sent)
    ≡ (list_any (same_end a) (all_ends s) && (st.ends a).opened && lines && same_frames sent (close_at s st a))
tells_close x s st a was lines sent are is =
    ap (λ (b : Bool). b && was.opened && lines && same_frames (frames a was (Closing ∷ [])) sent) (sym (ends_listed s a))
    ∙ go was.opened refl
    ∙ ap (λ (c : End). list_any (same_end a) (all_ends s) && c.opened && lines && same_frames sent (close_at s st a)) (is ∙ sym (are.ends a))
  where
    go : (b : Bool) → was.opened ≡ b
        → (list_any (same_end a) (all_ends s) && b && lines && same_frames (frames a was (Closing ∷ [])) sent) ≡ (list_any (same_end a) (all_ends s) && b && lines && same_frames sent (close_at s st a))
    go true opened = ap (λ (t : Bool). list_any (same_end a) (all_ends s) && true && lines && t)
        (frames_back (frames a was (Closing ∷ [])) sent ∙ ap (same_frames sent) (sym (close_same x s st are a ∙ open_end x a was is opened)))
    go false opened = shut (list_any (same_end a) (all_ends s)) lines (same_frames (frames a was (Closing ∷ [])) sent) (same_frames sent (close_at s st a))
      where
        shut : (p q r t : Bool) → (p && false && q && r) ≡ (p && false && q && t)
        shut true q r t = refl
        shut false q r t = refl
