-- What the proof of `words::is_audit` needs beside the tactics.
use Rattle.std.proofs.Common.{◌≡◌, List, ℕ, [], ◌∷◌, ap, sym, ◌∙◌, map, Global, codes}
use Rattle.std.proofs.lemmas.Slice.Eq.{slice_eq-Decides}
use Rattle.std.proofs.lemmas.Bool.Decides.{Decides-eqb}
use Rattle.std.specs.String.{string_bytes}
use Rattle.script_answers.proofs.WordLemmas.{one_is}
use Rattle.script_answers.proofs.words.is_audit.Goals as goal

pub returns-in-len1 : goal.returns-in-len1
returns-in-len1 c =
    let one = one_is c.args.words.now c.word-item.result c.in-len1.len_at_least c.in-len1.len_below c.word-item.is in
    let seen : map (string_bytes {Z = Global}) c.args.words.now ≡ c.as_str.result.now ∷ [] =
    ap (map (string_bytes {Z = Global})) one ∙ ap (λ (w : List ℕ). w ∷ []) (sym c.as_str.ensures.value) in
    let same = slice_eq-Decides Decides-eqb c.as_str.result.now (codes "audit") _ c.eq.ensures in (
      λ h. seen ∙ ap (λ (w : List ℕ). w ∷ []) (same.0 h),
      λ h. let words : c.as_str.result.now ∷ [] ≡ codes "audit" ∷ [] = sym seen ∙ h in same.1 (cc),
    )
