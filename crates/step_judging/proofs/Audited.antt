-- What is kept entry by entry is what an audit tells.
use Rattle.std.proofs.Common.{◌≡◌, ◌≢◌, ◌⊎◌, inl, inr, ℕ, ◌≤◌, ◌<◌, Bool, true, false, List, [], ◌∷◌, length, Option, Some, None, refl, sym, ap, subst, ◌∙◌, arith}
use Rattle.std.specs.Prelude.{if◌then◌else◌, ◌==◌, min}
use Rattle.std.proofs.lemmas.Bool.{eqb-true}
use Rattle.std.proofs.lemmas.Bool.Decides.{leb_tells}
use Rattle.run_data.specs.declared.entry.Entry.{Entry}
use Rattle.run_data.specs.declared.run.RepoView.{RepoView}
use Rattle.run_model.specs.Safety.{Removal, add_removal, count, least_need, removal, removals, smaller}
use Rattle.step_judging.specs.Audits.{IsAudit, IsLeastCount, KeyAudit, WereAll, audit, with_count, with_removal}

all_now : (past : List Entry) → WereAll past past
all_now [] = refl
all_now (e ∷ past) = inl refl

-- without a removal there was none before
pub none_before : (repos : List RepoView) (past before : List Entry) (key : List ℕ) → WereAll past before → removals repos past key ≡ [] → removals repos before key ≡ []
none_before repos [] before key h e = subst (λ (b : List Entry). removals repos b key ≡ []) (sym h) e
none_before repos (x ∷ past) before key (inl h) e = subst (λ (b : List Entry). removals repos b key ≡ []) (sym h) e
none_before repos (x ∷ past) before key (inr h) e = none_before repos past before key h (earlier (removal repos past key x) e)
  where
    earlier : (o : Option Removal) → add_removal o (removals repos past key) ≡ [] → removals repos past key ≡ []
    earlier None f = f
    earlier (Some y) f = absurd (cc)

smaller_le : (c : ℕ) (o : Option ℕ) → smaller c o ≤ c
smaller_le c None = omega arith
smaller_le c (Some k) = omega arith

smaller_is : (c : ℕ) (o : Option ℕ) → (smaller c o ≡ c) ⊎ ((k : ℕ) × (o ≡ Some k) × (smaller c o ≡ k))
smaller_is c None = inl refl
smaller_is c (Some k) = elim (leb_tells c k) [ inl less ↦ inl (first less.1) | inr more ↦ inr (k, refl, second more.1) ]
  where
    first : c ≤ k → min c k ≡ c
    first h = omega arith

    second : k < c → min c k ≡ k
    second h = omega arith

module _ (repos : List RepoView) (past : List Entry) (key : List ℕ) (e : Entry) where
  abbrev c : ℕ
  c = count repos (e ∷ past) key

  -- the removals, and their least need, after the entry
  removal_holds : (o : Option Removal) (was : KeyAudit) → was.removals ≡ length (removals repos past key) → was.need ≡ least_need (removals repos past key)
      → ((with_removal o was).removals ≡ length (add_removal o (removals repos past key))) × ((with_removal o was).need ≡ least_need (add_removal o (removals repos past key))) × ((with_removal o was).least ≡ was.least)
  removal_holds None was r n = (r, n, refl)
  removal_holds (Some x) was r n = (omega arith, ap (λ (k : Option ℕ). Some (smaller x.need.m k)) n, refl)

  -- the least count after it, where there was none before, or one
  counted : (was : KeyAudit) (some : was.removals ≡ length (removals repos (e ∷ past) key)) → IsLeastCount repos past key was.least
      → IsLeastCount repos (e ∷ past) key (with_count c was).least
  counted was some old = go (was.removals == 0) refl
    where
      zero_none : was.removals ≡ 0 → removals repos (e ∷ past) key ≡ []
      zero_none h = empty (removals repos (e ∷ past) key) (sym some ∙ h)
        where
          empty : (xs : List Removal) → length xs ≡ 0 → xs ≡ []
          empty [] f = refl
          empty (x ∷ xs) f = absurd (omega arith)

      some_none : was.removals ≡ 0 → was.least ≡ None
      some_none h = none was.least refl
        where
          none : (o : Option ℕ) → was.least ≡ o → was.least ≡ None
          none None f = f
          none (Some n) f = let w = old.reached n f in absurd (w.2 (none_before repos (e ∷ past) w.0 key (inr w.1) (zero_none h)))

      go : (b : Bool) → (was.removals == 0) ≡ b → IsLeastCount repos (e ∷ past) key (if b then was else record { removals = was.removals; least = Some (smaller c was.least); need = was.need }).least
      go true is = record {
        none = λ f. zero_none (eqb-true was.removals 0 is);
        reached = λ n f. absurd (let both : None ≡ Some n = sym (some_none (eqb-true was.removals 0 is)) ∙ f in cc);
        below = λ n f. absurd (let both : None ≡ Some n = sym (some_none (eqb-true was.removals 0 is)) ∙ f in cc);
      }
      go false is = record { none = λ f. absurd (cc); reached = reached; below = below }
        where
          here : removals repos (e ∷ past) key ≢ []
          here h = absurd (let zero' : was.removals ≡ 0 = some ∙ ap length h in let both : false ≡ true = sym is ∙ rw zero' refl in cc)

          reached : (n : ℕ) → Some (smaller c was.least) ≡ Some n → (before : List Entry) × WereAll (e ∷ past) before × (removals repos before key ≢ []) × (count repos before key ≡ n)
          reached n f = elim (smaller_is c was.least) [
            | inl same ↦ (e ∷ past, inl refl, here, sym same ∙ (let v : smaller c was.least ≡ n = cc in v))
            | inr less ↦ later less.0 less.1 (sym less.2 ∙ (let v : smaller c was.least ≡ n = cc in v))
          ]
            where
              later : (k : ℕ) → was.least ≡ Some k → k ≡ n → (before : List Entry) × WereAll (e ∷ past) before × (removals repos before key ≢ []) × (count repos before key ≡ n)
              later k at same = let w = old.reached k at in (w.0, inr w.1, w.2, w.3 ∙ same)

          below : (n : ℕ) → Some (smaller c was.least) ≡ Some n → (before : List Entry) → WereAll (e ∷ past) before → removals repos before key ≢ [] → n ≤ count repos before key
          below n f before (inl now) some' =
              let v : smaller c was.least ≡ n = cc in
              let low : smaller c was.least ≤ c = smaller_le c was.least in
              subst (λ (b : List Entry). n ≤ count repos b key) (sym now) (omega (arith, v, low))
          below n f before (inr then') some' = under was.least refl
            where
              under : (o : Option ℕ) → was.least ≡ o → n ≤ count repos before key
              under None none' = absurd (some' (none_before repos past before key then' (old.none none')))
              under (Some k) at =
                  let v : smaller c was.least ≡ n = cc in
                  let low : k ≤ count repos before key = old.below k at before then' some' in
                  let least : min c k ≡ n = ap (smaller c) (sym at) ∙ v in
                  omega (arith, least, low)

pub audit_holds : (repos : List RepoView) (past : List Entry) (key : List ℕ) → IsAudit repos past key (audit repos past key)
audit_holds repos [] key = record {
  removals_are = refl;
  need_is = refl;
  least_is = record { none = λ f. refl; reached = λ n f. absurd (cc); below = λ n f. absurd (cc) };
}
audit_holds repos (e ∷ past) key =
    let old = audit_holds repos past key in
    let was = with_removal (removal repos past key e) (audit repos past key) in
    let h = removal_holds repos past key e (removal repos past key e) (audit repos past key) old.removals_are old.need_is in
    let least : IsLeastCount repos past key was.least = subst (IsLeastCount repos past key) (sym h.2) old.least_is in
    record {
      removals_are = kept_count was (count repos (e ∷ past) key) ∙ h.0;
      need_is = kept_need was (count repos (e ∷ past) key) ∙ h.1;
      least_is = counted repos past key e was h.0 least;
    }
  where
    kept_count : (was : KeyAudit) (c : ℕ) → (with_count c was).removals ≡ was.removals
    kept_count was c = go (was.removals == 0)
      where
        go : (b : Bool) → (if b then was else record { removals = was.removals; least = Some (smaller c was.least); need = was.need }).removals ≡ was.removals
        go true = refl
        go false = refl

    kept_need : (was : KeyAudit) (c : ℕ) → (with_count c was).need ≡ was.need
    kept_need was c = go (was.removals == 0)
      where
        go : (b : Bool) → (if b then was else record { removals = was.removals; least = Some (smaller c was.least); need = was.need }).need ≡ was.need
        go true = refl
        go false = refl
