-- What a claim of many cases says.
use Rattle.std.specs.Prelude.{◌≡◌, List, map}

-- f answers each case so: what is asked, and the answer
abbrev pub Answers : {X Y : Type 0} → (X → Y) → List (X × Y) → Type 0
Answers f cases = map (λ c. f c.0) cases ≡ map (λ c. c.1) cases
