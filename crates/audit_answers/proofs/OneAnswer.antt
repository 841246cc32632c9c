-- No two answers are due for the bytes of one journal.
use Rattle.std.proofs.Common.{◌≡◌, ◌≢◌, ◌⊎◌, inl, inr, ℕ, zero, suc, ◌+◌, ◌<◌, ◌≤◌, List, [], ◌∷◌, length, map, take, Option, Some, None, refl, sym, ap, subst, ◌∙◌, arith}
use Rattle.std.specs.Prelude.{reverse, slice_get}
use Rattle.std.specs.declared.cmp.Ordering.TheVariants.{Less, Equal, Greater}
use Rattle.std.proofs.lemmas.Bool.{cases_lt}
use Rattle.std.proofs.lemmas.List.{take-take}
use Rattle.annex_base.specs.ByteOrder.{Before, IsInOrder}
use Rattle.annex_base.specs.Lists.{Each, Member}
use Rattle.annex_base.proofs.TextOrder.{BeforeAll-member, before_after, order_head, order_tail, text_cmp-itself}
use Rattle.run_data.specs.declared.entry.Entry.{Entry}
use Rattle.run_data.specs.declared.run.Run.{Run}
use Rattle.run_model.specs.Run.{IsRun, set_up}
use Rattle.journal_reading.specs.Reading.Reading.{BadJournal, Journal}
use Rattle.journal_reading.specs.WellFormed.{IsJournal, TextsReadAsTheirRuns}
use Rattle.step_judging.specs.Audits as audits
use Rattle.step_judging.specs.Verdicts.{Broken, verdict}
use Rattle.step_rules.specs.Runs.{start_of}
use Rattle.run_audit.specs.Audited.{AreKeysOf, IsKeyOf, audit_of}
use Rattle.run_audit.specs.declared.key_audit.KeyAudit.{KeyAudit}
use Rattle.script_answers.specs.declared.status.Status.{Status}
use Rattle.script_answers.specs.declared.status.Status.TheVariants.{Done, Usage, Script, ReadFault, WriteFault, NoMemory, Limit, NotARun, Input}
use Rattle.audit_answers.specs.Due.{IsAuditDue, IsAudited, IsOutside, IsRefused}
use Rattle.audit_answers.specs.Texts.{audit_text, outside_text, refusal_text}
use Rattle.audit_answers.proofs.AuditDue.{IsOne}
use Rattle.audit_answers.proofs.JournalRuns.{one_run}

-- ---- texts in order, each once

apart : (x y : List ℕ) → Before x y → Before y x → ⊥
apart x y first second = let both : Greater ≡ Less = sym (before_after x y first) ∙ second in cc

not_itself : (x : List ℕ) → Before x x → ⊥
not_itself x before = let both : Equal ≡ Less = sym (text_cmp-itself x) ∙ before in cc

heads_same : (k l : List ℕ) (ks ls : List (List ℕ)) → IsInOrder (k ∷ ks) → IsInOrder (l ∷ ls) → Member k (l ∷ ls) → Member l (k ∷ ks) → k ≡ l
heads_same k l ks ls ko lo (inl same) there = same
heads_same k l ks ls ko lo (inr later) (inl same) = sym same
heads_same k l ks ls ko lo (inr later) (inr too) =
    absurd (apart l k (BeforeAll-member l k ls (order_head l ls lo) later) (BeforeAll-member k l ks (order_head k ks ko) too))

rest_of : (k m : List ℕ) (ks ls : List (List ℕ)) → IsInOrder (k ∷ ks) → Member m ks → Member m (k ∷ ls) → Member m ls
rest_of k m ks ls ko among (inl same) = absurd (not_itself k (subst (λ t. Before k t) same (BeforeAll-member k m ks (order_head k ks ko) among)))
rest_of k m ks ls ko among (inr later) = later

ordered_same : (ks ls : List (List ℕ)) → IsInOrder ks → IsInOrder ls → ((k : List ℕ) → Member k ks → Member k ls) → ((k : List ℕ) → Member k ls → Member k ks) → ks ≡ ls
ordered_same [] [] ko lo there back = refl
ordered_same [] (l ∷ ls) ko lo there back = absurd (back l (inl refl))
ordered_same (k ∷ ks) [] ko lo there back = absurd (there k (inl refl))
ordered_same (k ∷ ks) (l ∷ ls) ko lo there back =
    let same = heads_same k l ks ls ko lo (there k (inl refl)) (back l (inl refl)) in
    let rest = ordered_same ks ls (order_tail k ks ko) (order_tail l ls lo)
    (λ m among. rest_of k m ks ls ko among (subst (λ (t : List ℕ). Member m (t ∷ ls)) (sym same) (there m (inr among))))
    (λ m among. rest_of l m ls ks lo among (subst (λ (t : List ℕ). Member m (t ∷ ks)) same (back m (inr among)))) in
    ap (λ (t : List ℕ). t ∷ ks) same ∙ ap (λ (ts : List (List ℕ)). l ∷ ts) rest

-- ---- keys

was_removed : (run : Run) (xs : List KeyAudit) → Each (IsKeyOf run) xs → (key : List ℕ) → Member key (map (λ x. x.key) xs) → (audit_of run key).removals ≢ 0
was_removed run [] each key among = absurd among
was_removed run (x ∷ xs) each key (inl same) = λ none.
    each.0.removed (sym (ap (λ (a : audits.KeyAudit). a.removals) each.0.audit_is) ∙ subst (λ (k : List ℕ). (audit_of run k).removals ≡ 0) same none)
was_removed run (x ∷ xs) each key (inr later) = was_removed run xs each.1 key later

some_same : (n m : ℕ) → Some n ≡ Some m → n ≡ m
some_same n m h = cc

made : List ℕ → ℕ → ℕ → ℕ → KeyAudit
made k r l m = record { key = k; removals = r; least = l; mincopies = m }

one_key : (run : Run) (x y : KeyAudit) → IsKeyOf run x → IsKeyOf run y → x.key ≡ y.key → x ≡ y
unfolding made
one_key run x y is too same =
    let both = sym is.audit_is ∙ ap (audit_of run) same ∙ too.audit_is in
    let r : x.removals ≡ y.removals = ap (λ (a : audits.KeyAudit). a.removals) both in
    let l : x.least ≡ y.least = some_same x.least y.least (ap (λ (a : audits.KeyAudit). a.least) both) in
    let m : x.mincopies ≡ y.mincopies = some_same x.mincopies y.mincopies (ap (λ (a : audits.KeyAudit). a.need) both) in
    ap (λ (k : List ℕ). made k x.removals x.least x.mincopies) same ∙ ap (λ n. made y.key n x.least x.mincopies) r ∙ ap (λ n. made y.key y.removals n x.mincopies) l
    ∙ ap (λ n. made y.key y.removals y.least n) m

keys_same : (run : Run) (xs ys : List KeyAudit) → Each (IsKeyOf run) xs → Each (IsKeyOf run) ys → map (λ x. x.key) xs ≡ map (λ x. x.key) ys → xs ≡ ys
keys_same run [] [] is too same = refl
keys_same run [] (y ∷ ys) is too same = absurd (cc)
keys_same run (x ∷ xs) [] is too same = absurd (cc)
keys_same run (x ∷ xs) (y ∷ ys) is too same =
    let head : x.key ≡ y.key = cc in
    let tail : map (λ x. x.key) xs ≡ map (λ x. x.key) ys = cc in
    ap (λ (z : KeyAudit). z ∷ xs) (one_key run x y is.0 too.0 head) ∙ ap (λ (zs : List KeyAudit). y ∷ zs) (keys_same run xs ys is.1 too.1 tail)

one_keys : (run : Run) (xs ys : List KeyAudit) → AreKeysOf run xs → AreKeysOf run ys → xs ≡ ys
one_keys run xs ys is too =
    keys_same run xs ys is.each too.each
    (ordered_same (map (λ x. x.key) xs) (map (λ x. x.key) ys) is.in_order too.in_order
    (λ k among. too.all k (was_removed run xs is.each k among)) (λ k among. is.all k (was_removed run ys too.each k among)))

-- ---- refusals

abbrev pub EndsLaw : Type 0
EndsLaw = (run : Run) (place : ℕ) (e : Entry) (b : Broken) → slice_get run.entries place ≡ Some e
    → verdict (set_up (start_of run place)) (reverse (start_of run place).entries) e ≡ Some b → IsRun run → ⊥

pub record Refuses (run : Run) (place : ℕ) (broken : Broken) : Type 0 where
  pub entry : Entry
  pub at : slice_get run.entries place ≡ Some entry
  pub before : IsRun (start_of run place)
  pub breaks : verdict (set_up (start_of run place)) (reverse (start_of run place).entries) entry ≡ Some broken

at_front : (es : List Entry) (i n : ℕ) (e : Entry) → i < n → slice_get es i ≡ Some e → slice_get (take n es) i ≡ Some e
at_front [] i n e low at = absurd (cc)
at_front (x ∷ xs) i zero e low at = absurd (omega (arith, low))
at_front (x ∷ xs) zero (suc n) e low at = at
at_front (x ∷ xs) (suc i) (suc n) e low at = at_front xs i n e (omega (arith, low)) at

start_start : (run : Run) (i n : ℕ) → i ≤ n → start_of (start_of run n) i ≡ start_of run i
start_start run i n low = ap (λ (entries : List Entry). record run { entries = entries }) (take-take i n run.entries low)

not_before : EndsLaw → (run : Run) (i n : ℕ) (b : Broken) → i < n → Refuses run i b → IsRun (start_of run n) → ⊥
not_before ends run i n b low r lawful =
    ends (start_of run n) i r.entry b (at_front run.entries i n r.entry low r.at)
    (subst (λ (s : Run). verdict (set_up s) (reverse s.entries) r.entry ≡ Some b) (sym (start_start run i n (omega (arith, low)))) r.breaks) lawful

places_same : EndsLaw → (run : Run) (i n : ℕ) (b c : Broken) → Refuses run i b → Refuses run n c → i ≡ n
places_same ends run i n b c r s = elim (cases_lt i n) [
  | inl low ↦ absurd (not_before ends run i n b low r s.before)
  | inr high ↦ elim (cases_lt n i) [
    | inl low ↦ absurd (not_before ends run n i c low s r.before)
    | inr too ↦ omega (arith, high, too)
  ]
]

entry_same : (x y : Entry) → Some x ≡ Some y → x ≡ y
entry_same x y h = cc

broken_same : (x y : Broken) → Some x ≡ Some y → x ≡ y
broken_same x y h = cc

rules_same : (run : Run) (i : ℕ) (b c : Broken) → Refuses run i b → Refuses run i c → b ≡ c
rules_same run i b c r s =
    let same = entry_same r.entry s.entry (sym r.at ∙ s.at) in
    broken_same b c (sym r.breaks ∙ ap (λ (e : Entry). verdict (set_up (start_of run i)) (reverse (start_of run i).entries) e) same ∙ s.breaks)

refusals_same : EndsLaw → (run : Run) (i n : ℕ) (b c : Broken) → Refuses run i b → Refuses run n c → refusal_text (i + 1) b.rule b.found ≡ refusal_text (n + 1) c.rule c.found
refusals_same ends run i n b c r s =
    let place = places_same ends run i n b c r s in
    let rule = rules_same run n b c (subst (λ p. Refuses run p b) place r) s in
    ap (λ p. refusal_text (p + 1) b.rule b.found) place ∙ ap (λ (x : Broken). refusal_text (n + 1) x.rule x.found) rule

refuses_of : (bytes text : List ℕ) (r : IsRefused bytes text) → Refuses r.run r.place r.broken
refuses_of bytes text r = record { entry = r.entry; at = r.at; before = r.before; breaks = r.breaks }

-- ---- what is due

pub record OneFacts : Type 0 where
  pub one : TextsReadAsTheirRuns
  pub ends : EndsLaw

module _ (x : OneFacts) (bytes t t' : List ℕ) where
  audited_same : IsAudited bytes t → IsAudited bytes t' → t ≡ t'
  audited_same a b =
      let same = one_run x.one bytes a.run b.run a.journal b.journal in
      let keys = one_keys b.run a.keys b.keys (subst (λ (r : Run). AreKeysOf r a.keys) same a.keys_are) b.keys_are in
      a.text_is ∙ ap (λ (ks : List KeyAudit). audit_text ks (length a.run.entries)) keys ∙ ap (λ (r : Run). audit_text b.keys (length r.entries)) same ∙ sym b.text_is

  audited_or_refused : IsAudited bytes t → IsRefused bytes t' → ⊥
  audited_or_refused a r =
      let same = one_run x.one bytes a.run r.run a.journal r.journal in
      x.ends r.run r.place r.entry r.broken r.at r.breaks (subst IsRun same a.lawful)

  refused_same : IsRefused bytes t → IsRefused bytes t' → t ≡ t'
  refused_same a b =
      let same = one_run x.one bytes a.run b.run a.journal b.journal in
      a.text_is ∙ refusals_same x.ends b.run a.place b.place a.broken b.broken (subst (λ (r : Run). Refuses r a.place a.broken) same (refuses_of bytes t a)) (refuses_of bytes t' b) ∙ sym b.text_is

  lines_same : (n m : ℕ) → BadJournal n ≡ BadJournal m → n ≡ m
  lines_same n m h = cc

  outside_same : IsOutside bytes t → IsOutside bytes t' → t ≡ t'
  outside_same a b = a.text_is ∙ ap outside_text (lines_same a.line b.line (sym a.bad ∙ b.bad)) ∙ sym b.text_is

  read_or_outside : (run : Run) → IsJournal bytes run → IsOutside bytes t' → ⊥
  read_or_outside run is b = let both : Journal run ≡ BadJournal b.line = sym ((x.one bytes run).1 is) ∙ b.bad in cc

pub due_once : OneFacts → (bytes : List ℕ) (s s' : Status) (t t' : List ℕ) → IsAuditDue bytes s t → IsAuditDue bytes s' t' → IsOne s s' t t'
due_once x bytes Done Done t t' d d' = (refl, audited_same x bytes t t' d d')
due_once x bytes Done NotARun t t' d d' = absurd (audited_or_refused x bytes t t' d d')
due_once x bytes Done Input t t' d d' = absurd (read_or_outside x bytes t t' d.run d.journal d')
due_once x bytes Done Limit t t' d d' = absurd (omega (arith, d.short, d'.long))
due_once x bytes NotARun Done t t' d d' = absurd (audited_or_refused x bytes t' t d' d)
due_once x bytes NotARun NotARun t t' d d' = (refl, refused_same x bytes t t' d d')
due_once x bytes NotARun Input t t' d d' = absurd (read_or_outside x bytes t t' d.run d.journal d')
due_once x bytes NotARun Limit t t' d d' = absurd (omega (arith, d.short, d'.long))
due_once x bytes Input Done t t' d d' = absurd (read_or_outside x bytes t' t d'.run d'.journal d)
due_once x bytes Input NotARun t t' d d' = absurd (read_or_outside x bytes t' t d'.run d'.journal d)
due_once x bytes Input Input t t' d d' = (refl, outside_same x bytes t t' d d')
due_once x bytes Input Limit t t' d d' = absurd (omega (arith, d.short, d'.long))
due_once x bytes Limit Done t t' d d' = absurd (omega (arith, d.long, d'.short))
due_once x bytes Limit NotARun t t' d d' = absurd (omega (arith, d.long, d'.short))
due_once x bytes Limit Input t t' d d' = absurd (omega (arith, d.long, d'.short))
due_once x bytes Limit Limit t t' d d' = (refl, d.text_is ∙ sym d'.text_is)
due_once x bytes Usage s' t t' d d' = absurd d
due_once x bytes Script s' t t' d d' = absurd d
due_once x bytes ReadFault s' t t' d d' = absurd d
due_once x bytes WriteFault s' t t' d d' = absurd d
due_once x bytes NoMemory s' t t' d d' = absurd d
due_once x bytes s Usage t t' d d' = absurd d'
due_once x bytes s Script t t' d d' = absurd d'
due_once x bytes s ReadFault t t' d d' = absurd d'
due_once x bytes s WriteFault t t' d d' = absurd d'
due_once x bytes s NoMemory t t' d d' = absurd d'
