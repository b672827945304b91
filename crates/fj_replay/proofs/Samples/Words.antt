-- Which words are names, which line is the first of version 2, and the lines of replies by names.
use Rattle.std.specs.Prelude.{◌≡◌, true, false, [], ◌∷◌, ◌++◌, map, refl, codes}
use Rattle.fj_rules.specs.declared.said.Said.TheVariants as says
use Rattle.fj_rules.specs.Bounds.{bounds}
use Rattle.fj_lines.specs.Names.{is_name}
use Rattle.fj_replay.specs.declared.replied.Replied.TheVariants.{Said, NameTaken}
use Rattle.fj_replay.specs.declared.task_naming.TaskNaming.TheVariants.{Names}
use Rattle.fj_replay.specs.Namings.{replied_line}
use Rattle.fj_replay.specs.Plays.{is_title}

pub names_are_letters_digits_and_underlines_behind_a_letter :
    map is_name (codes "a" ∷ codes "z" ∷ codes "a_0" ∷ codes "abcdefghij_01234" ∷ []) ≡ true ∷ true ∷ true ∷ true ∷ []
names_are_letters_digits_and_underlines_behind_a_letter = refl

pub other_words_are_no_names :
    map is_name ([] ∷ codes "_a" ∷ codes "0a" ∷ codes "a-b" ∷ codes "aB" ∷ codes "-" ∷ codes "abcdefghij_012345" ∷ []) ≡ false ∷ false ∷ false ∷ false ∷ false ∷ false ∷ false ∷ []
other_words_are_no_names = refl

pub one_line_alone_is_the_first_of_version_2 :
    map is_title (codes "fj 2" ∷ codes "fj 20" ∷ codes "fj 2 " ∷ codes "fj 3" ∷ codes "fj" ∷ []) ≡ true ∷ false ∷ false ∷ false ∷ false ∷ []
one_line_alone_is_the_first_of_version_2 = refl

-- each reply that tells of a task tells its name
pub tasks_are_told_by_their_names :
    map (λ reply. replied_line (Names (codes "a" ∷ codes "b" ∷ [])) (bounds 1 1 2 8) (Said reply))
    (says.Task 1 ∷ says.Run 0 ∷ says.Skip 1 ∷ says.Counted 0 ∷ says.Hook 1 ∷ says.Spent 0 ∷ says.Early 1 ∷ says.Root 0 ∷ [])
    ≡ map (λ line. line ++ 10 ∷ []) (codes "task b" ∷ codes "run a" ∷ codes "skip b" ∷ codes "counted a" ∷ codes "hook b" ∷ codes "spent a" ∷ codes "early b" ∷ codes "root a" ∷ [])
unfolding replied_line
tasks_are_told_by_their_names = refl

pub a_taken_name_is_refusal_16 : replied_line (Names []) (bounds 1 1 1 1) NameTaken ≡ codes "refused 16" ++ 10 ∷ []
unfolding replied_line
a_taken_name_is_refusal_16 = refl
