-- A line that is added: what it changes, and that an entry with the next stamp is the newest.
use Rattle.std.proofs.Common.{inl, inr, ◌≡◌, ◌≢◌, ℕ, ◌^◌, ◌<◌, ◌≤◌, false, List, [], ◌∷◌, ◌++◌, length, Option, Some, None, refl, sym, ap, subst, ◌∙◌, lit<, arith}
use Rattle.std.specs.declared.cmp.Ordering.TheVariants.{Less, Greater}
use Rattle.std.specs.Ordering.{ordering_reverse, is_lt}
use Rattle.std.specs.Char.{is_ascii_digit}
use Rattle.std.specs.List.{AllPass}
use Rattle.std.specs.Str.Parse.{digits_value}
use Rattle.std.proofs.Math.Nat.{pow-le-pow_right}
use Rattle.std.proofs.lemmas.Option.{same_Some}
use Rattle.annex_base.specs.StampText.{IsStamp}
use Rattle.annex_base.proofs.StampLemmas.{digits_below}
use Rattle.annex_base.proofs.Conditions.{by_test}
use Rattle.annex_base.proofs.Numbers.{nat_cmp_less}
use Rattle.log_grammar.specs.declared.entry.LogKind.{LogKind}
use Rattle.log_grammar.specs.declared.entry.LogKind.TheVariants as kinds
use Rattle.log_grammar.specs.declared.entry.Topic.{Topic}
use Rattle.log_grammar.specs.declared.entry.Value.{Value}
use Rattle.log_grammar.specs.declared.entry.Entry.{Entry}
use Rattle.log_grammar.specs.LineText.{IsLine, HasForm, IsRepoLine, Ends}
use Rattle.log_grammar.specs.Reading.{entry_of}
use Rattle.log_lines.specs.Newest.{same_topic, entry_cmp, newer, entry_at, newest_of, ReadAlike, greatest_stamp, next_stamp, stamp_in, newest_stamp}
use Rattle.log_lines.specs.Latest.{said_of, newer_of}
use Rattle.log_grammar.proofs.FormLemmas.{entry_again}
use Rattle.log_lines.proofs.OrderLemmas.{entry_total, same_topic_is}
use Rattle.log_lines.proofs.NewerLemmas.{newer_later, newer_stays, newer_of_none, said_same, said_other}
use Rattle.log_lines.proofs.NewestLemmas.{newest_of-cons, newest_of-push, newest_of_is}
use Rattle.log_lines.proofs.CompactLemmas.{alike_turned}
use Rattle.log_grammar.proofs.StampLemmas.{nanos_below}

-- ---- a stamp is below 10 ^ 19

seconds_below : (ds : List ℕ) → AllPass is_ascii_digit ds → length ds ≤ 10 → digits_value 10 ds < 10 ^ 10
seconds_below ds all short = omega (arith, digits_below ds all, pow-le-pow_right {n = 10} (lit< tt) {i = length ds} {j = 10} short)

stamp_below : (text : List ℕ) (n : ℕ) → IsStamp text n → n ≤ greatest_stamp
stamp_below text n is =
    omega (arith, is.value, seconds_below is.seconds is.digits is.short, nanos_below is.fraction is.fraction_digits)

ends_below : (line front : List ℕ) (stamp : Option ℕ) (n : ℕ) → Ends line front stamp → stamp ≡ Some n → n ≤ greatest_stamp
ends_below line front None n ends e = absurd cc
ends_below line front (Some m) n ends e = subst (λ k. k ≤ greatest_stamp) (same_Some m n e) (stamp_below ends.stamp m ends.is)

repo_below : (IsBody : Value → List ℕ → Type 0) (line : List ℕ) (e : Entry) (n : ℕ) → IsRepoLine IsBody line e → e.stamp ≡ Some n → n ≤ greatest_stamp
repo_below IsBody line e n is at = ends_below line _ e.stamp n is.ends at

begins_below : (stamp : Option ℕ) (time n : ℕ) (text : List ℕ) → stamp ≡ Some time → IsStamp text time → stamp ≡ Some n → n ≤ greatest_stamp
begins_below stamp time n text e is at = subst (λ k. k ≤ greatest_stamp) (same_Some time n (sym e ∙ at)) (stamp_below text time is)

form_below : (kind : LogKind) (line : List ℕ) (e : Entry) (n : ℕ) → HasForm kind line e → e.stamp ≡ Some n → n ≤ greatest_stamp
form_below kinds.Location line e n f at = begins_below e.stamp f.time n f.begins.stamp f.at f.begins.is at
form_below kinds.Trust line e n f at = repo_below _ line e n f at
form_below kinds.Uuid line e n f at = repo_below _ line e n f at
form_below kinds.Group line e n (inl f) at = repo_below _ line e n f at
form_below kinds.Group line e n (inr f) at = begins_below e.stamp f.time n f.ends.stamp f.at f.ends.is at
form_below kinds.Preferred line e n f at = repo_below _ line e n f at
form_below kinds.Required line e n f at = repo_below _ line e n f at
form_below kinds.GroupPreferred line e n f at = begins_below e.stamp f.time n f.begins.stamp f.at f.begins.is at
form_below kinds.Numcopies line e n f at = begins_below e.stamp f.time n f.begins.stamp f.at f.begins.is at
form_below kinds.Mincopies line e n f at = begins_below e.stamp f.time n f.begins.stamp f.at f.begins.is at
form_below kinds.NumcopiesPath line e n f at = begins_below e.stamp f.time n f.begins.stamp f.at f.begins.is at
form_below kinds.MincopiesPath line e n f at = begins_below e.stamp f.time n f.begins.stamp f.at f.begins.is at

-- a line's stamp is at most the greatest
pub line_stamp_below : (kind : LogKind) (line : List ℕ) (e : Entry) (n : ℕ) → IsLine kind line e → e.stamp ≡ Some n → n ≤ greatest_stamp
line_stamp_below kind line e n is at = form_below kind line e n is.form at

-- ---- a line that is added

said_line : (kind : LogKind) (line : List ℕ) (e : Entry) → IsLine kind line e → said_of e.topic (entry_of kind line) ≡ Some e
said_line kind line e is = ap (said_of e.topic) (entry_again kind line e is) ∙ said_same e.topic e refl

-- a line at the end
pub newest_of-push_line : (kind : LogKind) (lines : List (List ℕ)) (line : List ℕ) (e : Entry) → IsLine kind line e → newest_of kind (lines ++ line ∷ []) e.topic ≡ newer_of (newest_of kind lines e.topic) (Some e)
newest_of-push_line kind lines line e is = newest_of-push kind lines line e.topic ∙ ap (newer_of (newest_of kind lines e.topic)) (said_line kind line e is)

-- a line in front
pub newest_of-cons_line : (kind : LogKind) (lines : List (List ℕ)) (line : List ℕ) (e : Entry) → IsLine kind line e → newest_of kind (line ∷ lines) e.topic ≡ newer_of (Some e) (newest_of kind lines e.topic)
newest_of-cons_line kind lines line e is = newest_of-cons kind line lines e.topic ∙ ap (λ o. newer_of o (newest_of kind lines e.topic)) (said_line kind line e is)

-- the other topics stay
pub newest_of-push_other : (kind : LogKind) (lines : List (List ℕ)) (line : List ℕ) (e : Entry) (t : Topic) → IsLine kind line e → e.topic ≢ t → newest_of kind (lines ++ line ∷ []) t ≡ newest_of kind lines t
newest_of-push_other kind lines line e t is apart =
    let other : same_topic t e.topic ≡ false = by_test (same_topic t e.topic) (λ s. absurd (apart (sym (same_topic_is t e.topic s)))) (λ s. s) in
    let said : said_of t (entry_of kind line) ≡ None = ap (said_of t) (entry_again kind line e is) ∙ said_other t e other in
    newest_of-push kind lines line t ∙ ap (newer_of (newest_of kind lines t)) said ∙ newer_of_none (newest_of kind lines t)

-- ---- an entry with the next stamp

stamp_past : (n clock : ℕ) → n ≤ greatest_stamp → Some n ≢ Some greatest_stamp → n < next_stamp (Some n) clock
stamp_past n clock most apart = let below : n ≢ greatest_stamp = λ e. apart (ap Some e) in omega arith

stamps_less : (old e : Entry) (s : Option ℕ) (clock : ℕ) → old.stamp ≡ s → ((n : ℕ) → s ≡ Some n → n ≤ greatest_stamp) → s ≢ Some greatest_stamp → e.stamp ≡ Some (next_stamp s clock) → entry_cmp old e ≡ Less
stamps_less old e None clock was most apart at = rw (was, at) refl
stamps_less old e (Some n) clock was most apart at =
    let less = nat_cmp_less n (next_stamp (Some n) clock) (stamp_past n clock (most n refl) apart) in rw (was, at, less) refl

next_less : (kind : LogKind) (lines : List (List ℕ)) (old e : Entry) (clock : ℕ) → newest_of kind lines e.topic ≡ Some old → newest_stamp kind lines e.topic ≢ Some greatest_stamp → e.stamp ≡ Some (next_stamp (newest_stamp kind lines e.topic) clock) → entry_cmp old e ≡ Less
next_less kind lines old e clock is apart at =
    let new = (newest_of_is kind lines e.topic old is).0 in
    let stamp : newest_stamp kind lines e.topic ≡ old.stamp = ap stamp_in is in
    stamps_less old e old.stamp clock refl (λ n h. line_stamp_below kind new.line old n new.says h) (λ h. apart (stamp ∙ h)) (at ∙ ap (λ s. Some (next_stamp s clock)) stamp)

pushed : (o : Option Entry) (e : Entry) → ((old : Entry) → o ≡ Some old → entry_cmp old e ≡ Less) → (newer_of o (Some e) ≡ Some e) × (newer_of (Some e) o ≡ Some e)
pushed None e less = (refl, refl)
pushed (Some old) e less =
    let before = less old refl in
    let after : entry_cmp e old ≡ Greater = entry_total.antisymm e old ∙ ap ordering_reverse before in
    (ap Some (newer_later old e (ap is_lt before)), ap Some (newer_stays e old (ap is_lt after)))

pub next_is_newest : (kind : LogKind) (lines : List (List ℕ)) (line : List ℕ) (e : Entry) (clock : ℕ) → IsLine kind line e → e.stamp ≡ Some (next_stamp (newest_stamp kind lines e.topic) clock) → newest_stamp kind lines e.topic ≢ Some greatest_stamp
    → (newest_of kind (lines ++ line ∷ []) e.topic ≡ Some e) × (newest_of kind (line ∷ lines) e.topic ≡ Some e)
next_is_newest kind lines line e clock is at apart =
    let both = pushed (newest_of kind lines e.topic) e (λ old h. next_less kind lines old e clock h apart at) in
    (newest_of-push_line kind lines line e is ∙ both.0, newest_of-cons_line kind lines line e is ∙ both.1)

-- ---- at any stamp

pub pushed_newer : (kind : LogKind) (lines : List (List ℕ)) (line : List ℕ) (old e : Entry) → IsLine kind line e → newest_of kind lines e.topic ≡ Some old → newest_of kind (lines ++ line ∷ []) e.topic ≡ Some (newer old e)
pushed_newer kind lines line old e is known = newest_of-push_line kind lines line e is ∙ ap (λ o. newer_of o (Some e)) known

pub pushed_only : (kind : LogKind) (lines : List (List ℕ)) (line : List ℕ) (e : Entry) → IsLine kind line e → newest_of kind lines e.topic ≡ None → newest_of kind (lines ++ line ∷ []) e.topic ≡ Some e
pushed_only kind lines line e is known = newest_of-push_line kind lines line e is ∙ ap (λ o. newer_of o (Some e)) known

-- the lines with one more in front read as with it at the end
front_alike : (kind : LogKind) (lines : List (List ℕ)) (line : List ℕ) → ReadAlike kind (line ∷ lines) (lines ++ line ∷ [])
front_alike kind lines line = alike_turned kind (line ∷ []) lines

pub front_newer : (kind : LogKind) (lines : List (List ℕ)) (line : List ℕ) (old e : Entry) → IsLine kind line e → newest_of kind lines e.topic ≡ Some old → newest_of kind (line ∷ lines) e.topic ≡ Some (newer old e)
front_newer kind lines line old e is known = ap (λ es. entry_at es e.topic) (front_alike kind lines line) ∙ pushed_newer kind lines line old e is known
