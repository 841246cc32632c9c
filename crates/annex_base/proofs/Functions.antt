-- Functions.
use Rattle.std.proofs.Common.{◌≡◌}

-- functions that agree everywhere are one
pub funext : {X Y : Type 0} (f g : X → Y) → ((x : X) → f x ≡ g x) → f ≡ g
funext f g same i x = same x i
