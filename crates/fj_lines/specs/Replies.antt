-- The words of a reply.
use Rattle.std.specs.Prelude.{ℕ, List, [], ◌∷◌, ◌++◌, codes, decimal}
use Rattle.fj_rules.specs.declared.place.Place.{Place}
use Rattle.fj_rules.specs.declared.place.Place.TheVariants as place
use Rattle.fj_rules.specs.declared.said.Said.{Said}
use Rattle.fj_rules.specs.declared.said.Said.TheVariants as said
use Rattle.fj_rules.specs.Bounds.{Bounds, queue_number}
use Rattle.fj_rules.specs.Refusals.{refusal_number}
use Rattle.fj_rules.specs.Statuses.{status_words}

abbrev pub place_words : Bounds → Place → List (List ℕ)
place_words limits (place.Queued owner) = codes "queued" ∷ decimal (queue_number limits owner) ∷ []
place_words limits (place.Held w) = codes "held" ∷ decimal w ∷ []
place_words limits place.Open = codes "open" ∷ []
place_words limits place.Gone = codes "gone" ∷ []

abbrev pub reply_words : Bounds → Said → List (List ℕ)
reply_words limits (said.Task t) = codes "task" ∷ decimal t ∷ []
reply_words limits said.None = codes "none" ∷ []
reply_words limits (said.Run t) = codes "run" ∷ decimal t ∷ []
reply_words limits (said.Skip t) = codes "skip" ∷ decimal t ∷ []
reply_words limits said.Done = codes "done" ∷ []
reply_words limits (said.Counted t) = codes "counted" ∷ decimal t ∷ []
reply_words limits (said.Hook t) = codes "hook" ∷ decimal t ∷ []
reply_words limits (said.Spent t) = codes "spent" ∷ decimal t ∷ []
reply_words limits (said.Early t) = codes "early" ∷ decimal t ∷ []
reply_words limits (said.Root t) = codes "root" ∷ decimal t ∷ []
reply_words limits (said.Count n) = codes "count" ∷ decimal n ∷ []
reply_words limits said.Yes = codes "yes" ∷ []
reply_words limits said.No = codes "no" ∷ []
reply_words limits said.Normal = codes "normal" ∷ []
reply_words limits (said.Exceptional code) = codes "exceptional" ∷ decimal code ∷ []
reply_words limits said.Cancelled = codes "cancelled" ∷ []
reply_words limits (said.Refused r) = codes "refused" ∷ decimal (refusal_number r) ∷ []
reply_words limits (said.State p s) = codes "state" ∷ (place_words limits p ++ status_words s)

-- the words after `state`
abbrev pub words_of_state : Bounds → Said → List (List ℕ)
words_of_state limits (said.State p s) = place_words limits p ++ status_words s
words_of_state limits _ = []
