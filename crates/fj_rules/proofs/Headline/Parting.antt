-- What was sealed is a beginning of the history, and the parts that were handed out are that beginning.
use Rattle.std.proofs.Common.{ℕ, ◌≡◌, List, [], ◌∷◌, ◌++◌, length, drop, refl, ap, sym, ◌∙◌, arith, subst, append_assoc, append-nil, length-append}
use Rattle.std.specs.Prelude.{Result, Ok, Err, IfOk, OnOk}
use Rattle.std.specs.List.{flat_map}
use Rattle.std.proofs.lemmas.List.Concat.{flat_map-cons}
use Rattle.std.proofs.lemmas.Grind.{flat_map-append}
use Rattle.std.proofs.Math.Seq.{drop-append_seam}
use Rattle.fj_rules.specs.declared.event.Event.{Event}
use Rattle.fj_rules.specs.declared.step.Step.{Step}
use Rattle.fj_rules.specs.declared.said.Said.{Said}
use Rattle.fj_rules.specs.declared.epoch.Sealed.{Sealed}
use Rattle.fj_rules.specs.declared.epoch.Move.{Move}
use Rattle.fj_rules.specs.declared.epoch.Move.TheVariants as move
use Rattle.fj_rules.specs.declared.epoch.Answer.{Answer}
use Rattle.fj_rules.specs.declared.epoch.Answer.TheVariants as gives
use Rattle.fj_rules.specs.declared.refusal.Refusal.{Refusal}
use Rattle.fj_rules.specs.declared.mode.Mode.{Mode}
use Rattle.fj_rules.specs.Bounds.{Bounds}
use Rattle.fj_rules.specs.Places.{gone, gone_from}
use Rattle.fj_rules.specs.Answers.{answer}
use Rattle.fj_rules.specs.Pasts.{Past, fresh, present, gone_since, sealed_now}
use Rattle.fj_rules.specs.Runs.{Steps}
use Rattle.fj_rules.specs.Epochs.{Moves, MovesFrom, IsPast}
use Rattle.fj_rules.specs.Parts.{Fits, events_in, gone_in}
use Rattle.fj_rules.proofs.Headline.Sealing.{gone_grows}

Begins : Past → Type 0
Begins past = (more : List Event) × (past.events ≡ past.sealed ++ more)

move_begins : (old : Past) (asked : Move) (given : Answer) (new : Past) → Begins old → Moves old asked given new → Begins new
unfolding Begins
move_begins old (move.Step wanted) (gives.Said reply) new so made =
    subst Begins (sym made.1) (so.0 ++ (answer old wanted).1, ap (λ (es : List Event). es ++ (answer old wanted).1) so.1 ∙ append_assoc old.sealed so.0 (answer old wanted).1)
move_begins old (move.Step wanted) gives.Sealed new so made = absurd made
move_begins old (move.Step wanted) (gives.Refused refusal) new so made = absurd made
move_begins old move.Seal (gives.Said reply) new so made = absurd made
move_begins old move.Seal gives.Sealed new so made = subst Begins (sym made.1) ([], sym (append-nil old.events))
move_begins old move.Seal (gives.Refused refusal) new so made = subst Begins (sym made.1) so

moves_begin : (old : Past) (moves : List Move) (answers : List Answer) (new : Past) → Begins old → MovesFrom old moves answers new → Begins new
moves_begin old [] [] new so run = subst Begins (sym run) so
moves_begin old (asked ∷ moves) (given ∷ answers) new so run = moves_begin run.0 moves answers new (move_begins old asked given run.0 so run.1) run.2
moves_begin old [] (given ∷ answers) new so run = absurd run
moves_begin old (asked ∷ moves) [] new so run = absurd run

nothing_begins : (past : Past) → Begins (fresh past.pool.mode past.pool.limits)
unfolding Begins
nothing_begins past = ([], refl)

begins : (past : Past) → IsPast past → Begins past
begins past run = moves_begin (fresh past.pool.mode past.pool.limits) run.0 run.1 past (nothing_begins past) run.2

-- the history is what was sealed and what came since
pub past_begins : (past : Past) → IsPast past → past.events ≡ past.sealed ++ present past
unfolding Begins
past_begins past run =
    let so = begins past run in
    so.1 ∙ ap (λ (es : List Event). past.sealed ++ es) (sym (drop-append_seam past.sealed so.0) ∙ ap (drop (length past.sealed)) (sym so.1))

-- and so are the gone tasks
pub gone_begins : (past : Past) → IsPast past → gone past.events ≡ gone past.sealed ++ gone_since past
unfolding Begins
gone_begins past run =
    let so = begins past run in
    let grows = gone_grows past.sealed so.0 in
    let all : gone past.events ≡ gone past.sealed ++ grows.0 = ap gone so.1 ∙ grows.1 in
    all ∙ ap (λ (ts : List ℕ). gone past.sealed ++ ts) (sym (drop-append_seam (gone past.sealed) grows.0) ∙ ap (drop (length (gone past.sealed))) (sym all))

-- ---- the parts

joined_one : {A : Type 0} (f : Sealed → List A) (parts : List Sealed) (part : Sealed) → flat_map f (parts ++ part ∷ []) ≡ flat_map f parts ++ f part
joined_one f parts part = flat_map-append f parts (part ∷ []) ∙ ap (λ xs. flat_map f parts ++ xs) (flat_map-cons f part [] ∙ append-nil (f part))

-- a part that is handed out joins those before it
pub fits_more : (parts : List Sealed) (part : Sealed) (old : Past) → IsPast old → part.events.items ≡ present old → part.gone.items ≡ gone_since old → Fits parts old → Fits (parts ++ part ∷ []) (sealed_now old)
unfolding events_in gone_in
fits_more parts part old run events gones fits = record {
  events = joined_one (λ p. p.events.items) parts part ∙ rw (fits.events, events) (sym (past_begins old run));
  gone = joined_one (λ p. p.gone.items) parts part ∙ rw (fits.gone, gones) (sym (gone_begins old run));
  count = length-append parts (part ∷ []) ∙ omega (arith, fits.count);
}

none_gone : gone [] ≡ []
unfolding gone gone_from
none_gone = refl

-- at the start nothing was handed out
pub fits_none : (mode : Mode) (limits : Bounds) → Fits [] (fresh mode limits)
unfolding events_in gone_in
fits_none mode limits = record { events = refl; gone = sym none_gone; count = refl }

-- a step hands nothing out
pub fits_step : (parts : List Sealed) (old : Past) (asked : Step) (reply : Said) (new : Past) → Steps old asked reply new → Fits parts old → Fits parts new
fits_step parts old asked reply new made fits = rw made.1 (record { events = fits.events; gone = fits.gone; count = fits.count })

-- the parts, and what came since, are the history
pub parts_joined : (parts : List Sealed) (past : Past) → IsPast past → Fits parts past → past.events ≡ events_in parts ++ present past
parts_joined parts past run fits = rw fits.events (past_begins past run)

pub gone_joined : (parts : List Sealed) (past : Past) → IsPast past → Fits parts past → gone past.events ≡ gone_in parts ++ gone_since past
gone_joined parts past run fits = rw fits.gone (gone_begins past run)

-- a seal hands out a part that joins those before it
pub seal_fits : (r : Result Sealed Refusal) (old new : Past) → IsPast old → IfOk r (λ part. part.events.items ≡ present old) → IfOk r (λ part. part.gone.items ≡ gone_since old) → OnOk r (new ≡ sealed_now old)
    → IfOk r (λ part. (parts : List Sealed) → Fits parts old → Fits (parts ++ part ∷ []) new)
seal_fits (Ok part) old new run events gones is = λ parts fits. rw is (fits_more parts part old run events gones fits)
seal_fits (Err refusal) old new run events gones is = tt
