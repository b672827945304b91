-- The tickets of several entrants, joined.
use Rattle.std.proofs.Common.{◌≡◌, List, [], ◌∷◌, ◌++◌, sym, ap, ◌∙◌, append_assoc}
use Rattle.std.proofs.lemmas.List.{append-nil}
use Rattle.fj_gate.specs.Ends.{EntrantState, drawn_by}

pub drawn_by-push : (es : List EntrantState) (e : EntrantState) → drawn_by (es ++ e ∷ []) ≡ drawn_by es ++ e.drawn
drawn_by-push [] e = append-nil e.drawn
drawn_by-push (x ∷ xs) e = ap (λ l. x.drawn ++ l) (drawn_by-push xs e) ∙ sym (append_assoc x.drawn (drawn_by xs) e.drawn)
