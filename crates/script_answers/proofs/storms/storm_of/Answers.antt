-- The three words are `storm` and two numbers.
use Rattle.std.proofs.Common.{◌≡◌, List, ℕ, [], ◌∷◌, ap, sym, ◌∙◌, map, Global, codes}
use Rattle.std.proofs.lemmas.Slice.Eq.{slice_eq-Decides}
use Rattle.std.proofs.lemmas.Bool.Decides.{Decides-eqb}
use Rattle.std.specs.String.{string_bytes}
use Rattle.script_answers.proofs.StormWords.{asked_by, three_are}
use Rattle.script_answers.proofs.storms.storm_of.Goals as goal

pub returns-in-len3-clause-asked : goal.returns-in-len3-clause-asked
returns-in-len3-clause-asked c =
    let three = three_are c.args.words.now c.word-item.result c.number-item.result c.jobs-item.result c.in-len3.len_at_least c.in-len3.len_below c.word-item.is c.number-item.is c.jobs-item.is in
    let first : string_bytes {Z = Global} c.word-item.result ≡ codes "storm" = sym c.as_str.ensures.value ∙ (slice_eq-Decides Decides-eqb c.as_str.result.now (codes "storm") _ c.eq.ensures).0 c.if-eq.true in
    let second : string_bytes {Z = Global} c.number-item.result ≡ c.as_bytes.result.now = sym (c.as_bytes.ensures.value ∙ c.as_str-in-len3.ensures.value) in
    let third : string_bytes {Z = Global} c.jobs-item.result ≡ c.as_bytes-in-len3.result.now = sym (c.as_bytes-in-len3.ensures.value ∙ c.as_str-in-len3-2.ensures.value) in
    let seen : map (string_bytes {Z = Global}) c.args.words.now ≡ codes "storm" ∷ c.as_bytes.result.now ∷ c.as_bytes-in-len3.result.now ∷ [] =
    ap (map (string_bytes {Z = Global})) three
    ∙ ap (λ (w : List ℕ). w ∷ string_bytes {Z = Global} c.number-item.result ∷ string_bytes {Z = Global} c.jobs-item.result ∷ []) first
    ∙ ap (λ (w : List ℕ). codes "storm" ∷ w ∷ string_bytes {Z = Global} c.jobs-item.result ∷ []) second
    ∙ ap (λ (w : List ℕ). codes "storm" ∷ c.as_bytes.result.now ∷ w ∷ []) third in
    asked_by c.parse_storm.result _ c.as_bytes.result.now c.as_bytes-in-len3.result.now seen c.parse_storm.ensures.asked
