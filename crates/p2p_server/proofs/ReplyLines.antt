-- Replies are short lines of the protocol.
use Rattle.std.proofs.Common.{◌≡◌, ℕ, ◌<◌, ◌≤◌, ◌^◌, Bool, true, false, List, length, refl, sym, subst, arith}
use Rattle.std.specs.Prelude.{bytes_eq, codes, nat_lt, ◌||◌}
use Rattle.std.specs.List.{list_all}
use Rattle.std.specs.Str.{is_utf8}
use Rattle.std.specs.Fmt.{decimal}
use Rattle.std.proofs.lemmas.Bool.Decides.{nat_tests}
use Rattle.std.proofs.lemmas.List.Elements.{All-weaker}
use Rattle.std.proofs.lemmas.Str.{IsUtf8-from_ascii, is_utf8-from_IsUtf8}
use Rattle.std.proofs.lemmas.Str.Ascii.{IsAscii-from_all}
use Rattle.annex_base.specs.Lines.{IsOneLine}
use Rattle.annex_base.specs.RepoText.{repo_text}
use Rattle.annex_base.proofs.Conditions.{bytes_eq-true}
use Rattle.annex_base.proofs.Lists.{All-from_Each, Each-from_list_all}
use Rattle.annex_base.proofs.Lines.{one_line-by_test}
use Rattle.annex_base.proofs.RepoLemmas.{length-repo_text, repo_again}
use Rattle.annex_base.proofs.Numbers.{decimal_short}
use Rattle.annex_base.proofs.Words.{length-word_and_rest}
use Rattle.p2p_wire.specs.declared.message.Message.{Message}
use Rattle.p2p_wire.specs.declared.message.Message.TheVariants.{AuthSuccess, Version, Timestamp, PutFrom, AlreadyHave, Data, Valid, Invalid, Success, Failure, Error}
use Rattle.p2p_wire.specs.Messages.{IsShort, IsWire, ◌⊳◌, text_of}
use Rattle.p2p_wire.specs.Streams.{IsSaidInOneLine}
use Rattle.session_state.specs.Bounds.{IsReply}

either : (text : List ℕ) → (bytes_eq text (codes "unexpected") || bytes_eq text (codes "busy")) ≡ true → (P : List ℕ → Type 0) → P (codes "unexpected") → P (codes "busy") → P text
either text is P p q = go (bytes_eq text (codes "unexpected")) refl is
  where
    go : (b : Bool) → bytes_eq text (codes "unexpected") ≡ b → (b || bytes_eq text (codes "busy")) ≡ true → P text
    go true e found = subst P (sym (bytes_eq-true text (codes "unexpected") e)) p
    go false e found = subst P (sym (bytes_eq-true text (codes "busy") found)) q

utf8_by : (bs : List ℕ) → list_all (λ b. nat_lt b 128) bs ≡ true → is_utf8 bs ≡ true
utf8_by bs e = is_utf8-from_IsUtf8 bs (IsUtf8-from_ascii bs (IsAscii-from_all bs
    (All-weaker (λ (b : ℕ). nat_lt b 128 ≡ true) (λ (b : ℕ). b < 128) (λ b l. grind (arith, nat_tests)) bs
    (All-from_Each (λ (b : ℕ). nat_lt b 128 ≡ true) bs (Each-from_list_all (λ (b : ℕ). nat_lt b 128) bs e)))))

pub wire : (m : Message) → IsReply m → IsWire m × IsShort m × IsSaidInOneLine m
wire (AuthSuccess id) r = (repo_again (repo_text id) id r refl, tt, tt)
wire (Version n) r = (r, tt, tt)
wire (Timestamp n) r = (r, tt, tt)
wire (PutFrom n) r = (r, tt, tt)
wire AlreadyHave r = (tt, tt, tt)
wire (Data n) r = (r, tt, tt)
wire Valid r = (tt, tt, tt)
wire Invalid r = (tt, tt, tt)
wire Success r = (tt, tt, tt)
wire Failure r = (tt, tt, tt)
wire (Error text) r = (
  either text r (λ t. is_utf8 t ≡ true) (utf8_by (codes "unexpected") refl) (utf8_by (codes "busy") refl),
  either text r (λ t. length t ≤ 8000) (omega arith) (omega arith),
  either text r IsOneLine (one_line-by_test (codes "unexpected") refl) (one_line-by_test (codes "busy") refl),
)
wire m r = absurd r

numbered : (word : List ℕ) (n : ℕ) → length word ≤ 20 → n < 2 ^ 63 → length (word ⊳ decimal n) ≤ 64
numbered word n a small = let l = length-word_and_rest word (decimal n) 20 19 a (decimal_short n small) in omega (arith, l)

pub short : (m : Message) → IsReply m → length (text_of m) ≤ 64
short (AuthSuccess id) r = let h : length (repo_text id) ≡ 36 = length-repo_text id in let l = length-word_and_rest (codes "AUTH-SUCCESS") (repo_text id) 20 36 (omega arith) (omega (arith, h)) in omega (arith, l)
short (Version n) r = numbered (codes "VERSION") n (omega arith) r
short (Timestamp n) r = numbered (codes "TIMESTAMP") n (omega arith) r
short (PutFrom n) r = numbered (codes "PUT-FROM") n (omega arith) r
short AlreadyHave r = omega arith
short (Data n) r = numbered (codes "DATA") n (omega arith) r
short Valid r = omega arith
short Invalid r = omega arith
short Success r = omega arith
short Failure r = omega arith
short (Error text) r = either text r (λ t. length (text_of (Error t)) ≤ 64) (omega arith) (omega arith)
short m r = absurd r
