-- Where an end stands among those of its repository (own).
use Rattle.std.specs.Prelude.{ℕ, ◌+◌, ◌*◌, Bool, if◌then◌else◌}

-- eight ends for each peer: two for each of the client's four slots, the client's before the server's
abbrev pub end_place : ℕ → ℕ → Bool → ℕ
end_place peer slot client = peer * 8 + slot * 2 + (if client then 0 else 1)
