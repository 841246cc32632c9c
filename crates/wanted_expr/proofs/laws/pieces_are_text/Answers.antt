-- What the proof of `laws::pieces_are_text` needs beside the tactics.
use Rattle.wanted_expr.proofs.TextLemmas.{piece_text}
use Rattle.wanted_expr.proofs.laws.pieces_are_text.Goals as goal

pub returns : goal.returns
returns c = piece_text
