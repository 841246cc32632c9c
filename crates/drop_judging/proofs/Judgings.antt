-- What a worker knows, candidate by candidate.
use Rattle.std.proofs.Common.{◌≡◌, ◌≢◌, ℕ, ◌+◌, Bool, true, false, not, [], ◌∷◌, ◌++◌, Option, Some, None, refl, sym, ap, ◌∙◌, arith}
use Rattle.std.specs.Prelude.{◌==◌, if◌then◌else◌, option_map}
use Rattle.std.specs.List.{range_with_len}
use Rattle.std.proofs.lemmas.Bool.Decides.{nat_tests}
use Rattle.std.proofs.lemmas.List.{append-nil}
use Rattle.std.proofs.lemmas.List.Elements.{filter-append}
use Rattle.annex_base.proofs.Numbers.{range_more}
use Rattle.node_model.specs.Evidence as drops
use Rattle.node_model.specs.Evidence.{but}
use Rattle.node_model.specs.Knows.{Reading, heard_offer, is_unasked, offer_by}
use Rattle.drop_phases.specs.declared.phase.Heard.{Heard}
use Rattle.drop_phases.specs.declared.phase.Heard.TheVariants as heards
use Rattle.drop_phases.specs.Worker.{Worker}
use Rattle.drop_phases.specs.Working.{heard_as, newest_of}
use Rattle.drop_judging.specs.Judging.{asks_of, offer_heard, offer_of}
use Rattle.drop_phases.proofs.Heards.{heard_same}

pub asked_none : (r : Reading) (w : Worker) (c : ℕ) → drops.Asked ≡ r.standing c → newest_of w.heard c ≡ None → true ≡ asks_of r w c
asked_none r w c s n = sym (λ i. is_unasked (sym s i) ((heard_same w.heard c ∙ ap (option_map heard_as) n) i))

pub asked_some : (r : Reading) (w : Worker) (c : ℕ) (h : Heard) → drops.Asked ≡ r.standing c → newest_of w.heard c ≡ Some h → false ≡ asks_of r w c
asked_some r w c h s n = sym (λ i. is_unasked (sym s i) ((heard_same w.heard c ∙ ap (option_map heard_as) n) i))

offers : (clock : ℕ → ℕ) (o : Option Heard) → offer_heard clock o ≡ heard_offer clock (option_map heard_as o)
offers clock None = refl
offers clock (Some (heards.Held since)) = refl
offers clock (Some heards.Seen) = refl
offers clock (Some (heards.Unseen word)) = refl
offers clock (Some (heards.Lacks cause)) = refl

pub asked_offer : (r : Reading) (w : Worker) (c : ℕ) → drops.Asked ≡ r.standing c → offer_heard r.clock (newest_of w.heard c) ≡ offer_of r w c
asked_offer r w c s =
    offers r.clock (newest_of w.heard c) ∙ (λ i. offer_by r.clock (s i) (sym (heard_same w.heard c) i))

-- ---- lists

pub but_self : (r n : ℕ) → n ≡ r → but r (range_with_len 0 (n + 1)) ≡ but r (range_with_len 0 n)
but_self r n is =
    let e : (n == r) ≡ true = grind (arith, nat_tests) in
    ap (but r) (range_more n) ∙ filter-append (λ x. not (x == r)) (range_with_len 0 n) (n ∷ [])
    ∙ ap (λ (b : Bool). but r (range_with_len 0 n) ++ (if not b then n ∷ [] else [])) e ∙ append-nil (but r (range_with_len 0 n))

pub but_other : (r n : ℕ) → n ≢ r → but r (range_with_len 0 (n + 1)) ≡ but r (range_with_len 0 n) ++ n ∷ []
but_other r n other =
    let e : (n == r) ≡ false = grind (arith, nat_tests) in
    ap (but r) (range_more n) ∙ filter-append (λ x. not (x == r)) (range_with_len 0 n) (n ∷ [])
    ∙ ap (λ (b : Bool). but r (range_with_len 0 n) ++ (if not b then n ∷ [] else [])) e
