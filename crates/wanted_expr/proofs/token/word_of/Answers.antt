-- What the proof of `token::word_of` needs beside the tactics.
use Rattle.std.proofs.Common.{rules, ◌≡◌, ◌<◌, ◌++◌, ◌∷◌, [], None, inl, inr, false, ap, length, arith, sym, ◌∙◌}
use Rattle.std.proofs.lemmas.Bool.{ne_eqb}
use Rattle.wanted_expr.specs.Pieces.{ends_word, word_at}
use Rattle.wanted_expr.proofs.TokenLemmas.{word_on}
use Rattle.wanted_expr.proofs.token.word_of.Goals as goal
use Rattle.wanted_expr.proofs.token.word_of.Goals.{else-is_none-via-then-is_none+else-ends_word, else-is_none-via-else-is_none}

pub loop-first-preserved : goal.loop-first-preserved
loop-first-preserved c =
    let here : c.loop-first.rest.now ≡ c.in-Some.first.now ∷ c.in-Some.after.now = c.in-Some.ensures.cases.0 in
    let pushed : c.push.new.self.items ≡ c.loop-first.word.items ++ c.in-Some.first.now ∷ [] = search rules in
    let shorter : length c.in-Some.after.now < length c.args.bytes.now = elim c.loop-first.invariant.1 [
      | inl k ↦ omega (arith, ap length k.0, ap length here)
      | inr k ↦ omega (arith, k, ap length here)
    ] in
    let goes_on : c.loop-first.quote ≡ None → ends_word c.in-Some.first.now ≡ false = elim c.else-is_none.branch [
      | else-is_none-via-then-is_none+else-ends_word w ↦ λ n. sym w.ends_word.ensures ∙ w.if-ends_word.false
      | else-is_none-via-else-is_none w ↦ λ n. absurd (first_of (search rules, grind arith))
    ] in (
      omega (arith, c.loop-first.invariant.0, ap length here),
      inr shorter,
      word_on c.args.total c.loop-first.quote c.in-Some.first.now c.in-Some.after.now c.loop-first.rest.now c.loop-first.word.items c.push.new.self.items (word_at c.args.total None c.args.bytes.now)
          c.loop-first.invariant.2 here (ne_eqb c.in-Some.first.now 34 (λ e. first_of (omega arith, search rules))) goes_on pushed,
    )
