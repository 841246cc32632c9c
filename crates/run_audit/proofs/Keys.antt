-- The keys that are told are those with a removal, in order, with what the audit says of each.
use Rattle.std.proofs.Common.{◌≡◌, ◌≢◌, ℕ, Bool, true, false, cond, List, [], ◌∷◌, ◌++◌, map, Option, Some, None, Result, Ok, Err, refl, sym, ap, subst, ◌∙◌, inl, inr, arith}
use Rattle.std.specs.Prelude.{IfOk, OnOk, bytes_eq, length, reverse}
use Rattle.std.specs.declared.alloc.Global.{Global}
use Rattle.std.specs.declared.vec.Vec.{Vec}
use Rattle.std.specs.BTreeMap.{is_at}
use Rattle.std.specs.Map.{keys_of}
use Rattle.std.proofs.lemmas.Map.Text.{is_eq-slice_cmp}
use Rattle.std.proofs.lemmas.Option.{same_Some}
use Rattle.annex_base.specs.ByteOrder.{Before, IsInOrder, text_cmp}
use Rattle.annex_base.specs.Lists.{Each, Member}
use Rattle.annex_base.proofs.Conditions.{bytes_eq-other, bytes_eq-refl, bytes_eq-true}
use Rattle.annex_base.proofs.TextOrder.{Before-other, BeforeAll-from_members, BeforeAll-member, order_cons, order_head, order_nil, order_tail}
use Rattle.run_data.specs.declared.entry.Entry.{Entry}
use Rattle.run_data.specs.declared.run.RepoView.{RepoView}
use Rattle.run_data.specs.declared.run.Run.{Run}
use Rattle.run_model.specs.Safety.{Removal, least_need, removals, smaller}
use Rattle.step_judging.specs.Audits as audits
use Rattle.step_judging.specs.Audits.{IsAudit, audit}
use Rattle.run_audit.specs.Audited.{AreKeysOf, IsAuditorOf, IsKeyOf, audit_of}
use Rattle.run_audit.specs.Changes.{record_in, told_by, told_key, told_of}
use Rattle.run_audit.specs.Records.{audit_at, audit_in}
use Rattle.run_audit.specs.declared.auditor.Auditor.{Auditor}
use Rattle.run_audit.specs.declared.key_audit.KeyAudit as told
use Rattle.run_audit.specs.declared.record.KeyRecord.{KeyRecord}

abbrev Entries : Type 0
Entries = List (List ℕ × KeyRecord)

-- ---- look-ups in order

member_key : (entries : Entries) (key : List ℕ) (x : KeyRecord) → Member (key, x) entries → Member key (keys_of entries)
member_key [] key x m = absurd m
member_key (e ∷ entries) key x (inl is) = inl (ap (λ (z : List ℕ × KeyRecord). z.0) is)
member_key (e ∷ entries) key x (inr m) = inr (member_key entries key x m)

-- an entry of a map is what is looked up by its key
pub looked_up : (entries : Entries) → IsInOrder (keys_of entries) → (key : List ℕ) (x : KeyRecord) → Member (key, x) entries → record_in entries key ≡ Some x
looked_up [] order key x m = absurd m
looked_up (e ∷ entries) order key x (inl is) =
    let same : is_at (text_cmp key) e.0 ≡ true = is_eq-slice_cmp key e.0 ∙ ap (λ k. bytes_eq key k) (ap (λ (z : List ℕ × KeyRecord). z.0) (sym is)) ∙ bytes_eq-refl key in
    rw same (ap (λ (z : List ℕ × KeyRecord). Some z.1) (sym is))
looked_up (e ∷ entries) order key x (inr m) =
    let before : Before e.0 key = BeforeAll-member e.0 key (keys_of entries) (order_head e.0 (keys_of entries) order) (member_key entries key x m) in
    let off : is_at (text_cmp key) e.0 ≡ false = is_eq-slice_cmp key e.0 ∙ bytes_eq-other key e.0 (λ same. Before-other e.0 key before (sym same)) in
    rw off (looked_up entries (order_tail e.0 (keys_of entries) order) key x m)

-- and what is looked up is an entry
pub entry_of : (entries : Entries) (key : List ℕ) (x : KeyRecord) → record_in entries key ≡ Some x → Member (key, x) entries
entry_of [] key x is = absurd (cc)
entry_of (e ∷ entries) key x is = go (λ has. entry_of entries key x has) (is_at (text_cmp key) e.0) refl is
  where
    go : (record_in entries key ≡ Some x → Member (key, x) entries) → (b : Bool) → is_at (text_cmp key) e.0 ≡ b → cond b (Some e.1) (record_in entries key) ≡ Some x → Member (key, x) (e ∷ entries)
    go more true same has =
        let name : key ≡ e.0 = bytes_eq-true key e.0 (sym (is_eq-slice_cmp key e.0) ∙ same) in
        let value : e.1 ≡ x = same_Some e.1 x has in
        inl (λ i. (name i, sym value i))
    go more false off has = inr (more has)

-- ---- what is told

-- it is told of an entry
record Tells (entries : Entries) (t : told.KeyAudit) : Type 0 where
  x : KeyRecord
  among : Member (t.key, x) entries
  removals_is : x.removals ≡ t.removals
  least_is : x.least ≡ Some t.least
  need_is : x.need ≡ Some t.mincopies

one_told : (key : List ℕ) (x : KeyRecord) (rest : Entries) (t : told.KeyAudit) (more : List told.KeyAudit) → (Member t more → Tells ((key, x) ∷ rest) t) → Member t (told_key key x ++ more) → Tells ((key, x) ∷ rest) t
one_told key x rest t more later m = go x.least refl x.need refl m
  where
    go : (least : Option ℕ) → x.least ≡ least → (need : Option ℕ) → x.need ≡ need → Member t (told_by key x.removals least need ++ more) → Tells ((key, x) ∷ rest) t
    go (Some n) a (Some k) b (inl is) = record {
      x = x;
      among = inl (ap (λ (z : told.KeyAudit). (z.key, x)) is);
      removals_is = ap (λ (z : told.KeyAudit). z.removals) (sym is);
      least_is = a ∙ ap (λ (z : told.KeyAudit). Some z.least) (sym is);
      need_is = b ∙ ap (λ (z : told.KeyAudit). Some z.mincopies) (sym is);
    }
    go (Some n) a (Some k) b (inr m) = later m
    go (Some n) a None b m = later m
    go None a need b m = later m

tells : (entries : Entries) (t : told.KeyAudit) → Member t (told_of entries) → Tells entries t
tells [] t m = absurd m
tells (e ∷ entries) t m = one_told e.0 e.1 entries t (told_of entries) (λ n. let z = tells entries t n in record { x = z.x; among = inr z.among; removals_is = z.removals_is; least_is = z.least_is; need_is = z.need_is }) m

-- a key with both numbers is told
member_more : {X : Type 0} (x : X) (xs ys : List X) → Member x ys → Member x (xs ++ ys)
member_more x [] ys m = m
member_more x (y ∷ xs) ys m = inr (member_more x xs ys m)

told_here : (key : List ℕ) (x : KeyRecord) (more : List told.KeyAudit) (n k : ℕ) → x.least ≡ Some n → x.need ≡ Some k → Member key (map (λ t. t.key) (told_key key x ++ more))
told_here key x more n k a b = rw (a, b) (inl refl)

map_more : (f : told.KeyAudit → List ℕ) (xs ys : List told.KeyAudit) → map f (xs ++ ys) ≡ map f xs ++ map f ys
map_more f [] ys = refl
map_more f (x ∷ xs) ys = ap (λ zs. f x ∷ zs) (map_more f xs ys)

is_told : (entries : Entries) (key : List ℕ) (x : KeyRecord) (n k : ℕ) → Member (key, x) entries → x.least ≡ Some n → x.need ≡ Some k → Member key (map (λ t. t.key) (told_of entries))
is_told [] key x n k m a b = absurd m
is_told (e ∷ entries) key x n k (inl is) a b =
    subst (λ (z : List ℕ × KeyRecord). Member key (map (λ t. t.key) (told_key z.0 z.1 ++ told_of entries))) is (told_here key x (told_of entries) n k a b)
is_told (e ∷ entries) key x n k (inr m) a b =
    subst (Member key) (sym (map_more (λ t. t.key) (told_key e.0 e.1) (told_of entries))) (member_more key (map (λ t. t.key) (told_key e.0 e.1)) (map (λ t. t.key) (told_of entries)) (is_told entries key x n k m a b))

-- the keys stay in order
told_among : (entries : Entries) (key : List ℕ) → Member key (map (λ t. t.key) (told_of entries)) → Member key (keys_of entries)
told_among entries key m =
    let t = member_mapped (told_of entries) key m in
    let z = tells entries t.0 t.1 in
    subst (λ q. Member q (keys_of entries)) t.2 (member_key entries t.0.key z.x z.among)
  where
    member_mapped : (ts : List told.KeyAudit) (q : List ℕ) → Member q (map (λ t. t.key) ts) → (t : told.KeyAudit) × Member t ts × (t.key ≡ q)
    member_mapped [] q m = absurd m
    member_mapped (t ∷ ts) q (inl is) = (t, inl refl, sym is)
    member_mapped (t ∷ ts) q (inr m) = let z = member_mapped ts q m in (z.0, inr z.1, z.2)

told_order : (entries : Entries) → IsInOrder (keys_of entries) → IsInOrder (map (λ t. t.key) (told_of entries))
told_order [] order = order_nil
told_order (e ∷ entries) order = go (told_order entries (order_tail e.0 (keys_of entries) order)) e.1.least e.1.need
  where
    go : IsInOrder (map (λ t. t.key) (told_of entries)) → (least need : Option ℕ) → IsInOrder (map (λ t. t.key) (told_by e.0 e.1.removals least need ++ told_of entries))
    go rest (Some n) (Some k) = order_cons e.0 (map (λ t. t.key) (told_of entries))
        (BeforeAll-from_members e.0 (map (λ t. t.key) (told_of entries)) (λ key m. BeforeAll-member e.0 key (keys_of entries) (order_head e.0 (keys_of entries) order) (told_among entries key m))) rest
    go rest (Some n) None = rest
    go rest None need = rest

-- ---- the keys of a run

abbrev pub AuditsTell : Type 0
AuditsTell = (repos : List RepoView) (past : List Entry) (key : List ℕ) → IsAudit repos past key (audit repos past key)

some_need : (xs : List Removal) → length xs ≢ 0 → (k : ℕ) × (least_need xs ≡ Some k)
some_need [] none = absurd (none refl)
some_need (x ∷ xs) some = (smaller x.need.m (least_need xs), refl)

no_need : (xs : List Removal) (k : ℕ) → least_need xs ≡ Some k → length xs ≢ 0
no_need [] k is none = cc
no_need (x ∷ xs) k is none = omega (arith, none)

none_long : {X : Type 0} (xs : List X) → xs ≡ [] → length xs ≡ 0
none_long xs is = ap length is

each_from : (P : told.KeyAudit → Type 0) (ts : List told.KeyAudit) → ((t : told.KeyAudit) → Member t ts → P t) → Each P ts
each_from P [] all = tt
each_from P (t ∷ ts) all = (all t (inl refl), each_from P ts (λ u m. all u (inr m)))

-- **what is told is what the audit says**
pub keys_told : AuditsTell → (x : Auditor) → IsInOrder (keys_of x.records.kept.entries) → (run : Run) → IsAuditorOf x run → AreKeysOf run (told_of x.records.kept.entries)
keys_told law x order run of = record {
  each = each_from (IsKeyOf run) (told_of x.records.kept.entries) one;
  in_order = told_order x.records.kept.entries order;
  all = every;
}
  where
    entries : Entries
    entries = x.records.kept.entries

    one : (t : told.KeyAudit) → Member t (told_of x.records.kept.entries) → IsKeyOf run t
    one t m =
        let z = tells x.records.kept.entries t m in
        let found = looked_up x.records.kept.entries order t.key z.x z.among in
        let is = of.records t.key in
        let said : audit_of run t.key ≡ record { removals = t.removals; least = Some t.least; need = Some t.mincopies } =
        is.audit_is ∙ ap audit_at found ∙ (λ i. record { removals = z.removals_is i; least = z.least_is i; need = z.need_is i }) in
        let a = law run.repos (reverse run.entries) t.key in
        let need : least_need (removals run.repos (reverse run.entries) t.key) ≡ Some t.mincopies = sym a.need_is ∙ ap (λ (q : audits.KeyAudit). q.need) said in
        record {
          removed = λ none. no_need (removals run.repos (reverse run.entries) t.key) t.mincopies need (sym a.removals_are ∙ ap (λ (q : audits.KeyAudit). q.removals) said ∙ none);
          audit_is = said;
        }

    every : (key : List ℕ) → (audit_of run key).removals ≢ 0 → Member key (map (λ t. t.key) (told_of x.records.kept.entries))
    every key some = go (record_in x.records.kept.entries key) refl
      where
        a : IsAudit run.repos (reverse run.entries) key (audit_of run key)
        a = law run.repos (reverse run.entries) key

        go : (o : Option KeyRecord) → record_in x.records.kept.entries key ≡ o → Member key (map (λ t. t.key) (told_of x.records.kept.entries))
        go None found = absurd (some (ap (λ (q : audits.KeyAudit). q.removals) ((of.records key).audit_is ∙ ap audit_at found)))
        go (Some y) found =
            let said : audit_of run key ≡ audit_in y = (of.records key).audit_is ∙ ap audit_at found in
            let needs = some_need (removals run.repos (reverse run.entries) key) (λ none. some (a.removals_are ∙ none)) in
            let need : y.need ≡ Some needs.0 = sym (ap (λ (q : audits.KeyAudit). q.need) said) ∙ a.need_is ∙ needs.1 in
            least (audit_of run key).least refl y found said needs.0 need
          where
            least : (o : Option ℕ) → (audit_of run key).least ≡ o → (y : KeyRecord) → record_in x.records.kept.entries key ≡ Some y → audit_of run key ≡ audit_in y → (k : ℕ) → y.need ≡ Some k
                → Member key (map (λ t. t.key) (told_of x.records.kept.entries))
            least None is y found said k need = absurd (some (a.removals_are ∙ none_long (removals run.repos (reverse run.entries) key) (a.least_is.none is)))
            least (Some n) is y found said k need =
                is_told x.records.kept.entries key y n k (entry_of x.records.kept.entries key y found) (sym (ap (λ (q : audits.KeyAudit). q.least) said) ∙ is) need

pub all_told : {E : Type 0} → AuditsTell → (x : Auditor) (r : Result (Vec told.KeyAudit Global) E) → IfOk r (λ keys. keys.items ≡ told_of x.records.kept.entries) → OnOk r (IsInOrder (keys_of x.records.kept.entries))
    → IfOk r (λ keys. (run : Run) → IsAuditorOf x run → AreKeysOf run keys.items)
all_told law x (Ok keys) value order = λ run of. subst (AreKeysOf run) (sym value) (keys_told law x order run of)
all_told law x (Err e) value order = tt
