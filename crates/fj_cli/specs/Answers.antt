-- What the commands that run a job write, and how they end.
use Rattle.std.specs.Prelude.{ℕ, ◌≡◌, ◌+◌, ◌-◌, ◌<◌, ◌≤◌, ◌⊎◌, List, [], ◌∷◌, ◌++◌, codes, decimal, Option, Some, None}
use Rattle.std.specs.Int.{div_ceil}
use Rattle.std.specs.Io.KnownBytes.{IsAtEnd}
use Rattle.fj_lines.specs.declared.read.TheConstants.{LINE_FEED}
use Rattle.fj_rules.specs.declared.refusal.Refusal.{Refusal}
use Rattle.fj_rules.specs.declared.refusal.Refusal.TheVariants.{OutOfMemory}
use Rattle.fj_trees.specs.declared.node.Node.{Node}
use Rattle.fj_trees.specs.declared.tree_fault.TreeFault.{TreeFault}
use Rattle.fj_trees.specs.declared.tree_fault.TreeFault.TheVariants.{Line, Memory, Read}
use Rattle.fj_jobs.specs.declared.range_query.QueryValue.{QueryValue}
use Rattle.fj_jobs.specs.declared.range_query.QueryValue.TheVariants.{Total, Least, Hit}
use Rattle.fj_jobs.specs.Ranges.{range_sum, residues_hit, residues_least}
use Rattle.fj_trees.specs.Trees.{FaultOf, IsTree, tree_text}
use Rattle.fj_trees.specs.TreeValues.{node_value}
use Rattle.fj_arguments.specs.declared.command_line.Job.{Job}
use Rattle.fj_arguments.specs.declared.command_line.Job.TheVariants.{Sum, Min, Find, Tree}
use Rattle.fj_arguments.specs.declared.options.RangeOptions.{RangeOptions}
use Rattle.fj_arguments.specs.declared.options.FunctionOptions.{FunctionOptions}
use Rattle.fj_commands.specs.Answers.{EndsJob, number_line}
use Rattle.fj_cli.specs.declared.job_commands.TheConstants.{MAX_BLOCKS}

-- ---- values

-- how many numbers there are from first to last, and in how many blocks
abbrev pub count_of : RangeOptions → ℕ
count_of o = o.to + 1 - o.from

abbrev pub blocks_of : RangeOptions → ℕ
blocks_of o = div_ceil (count_of o) o.grain

-- the values of the jobs that are asked for
abbrev pub sum_of : RangeOptions → ℕ
sum_of o = range_sum o.from (count_of o)

abbrev pub least_of : RangeOptions → FunctionOptions → Option (ℕ × ℕ)
least_of o f = residues_least f.mul f.add f.modulus o.from (count_of o)

abbrev pub hit_of : RangeOptions → FunctionOptions → ℕ → Option ℕ
hit_of o f want = residues_hit f.mul f.add f.modulus want o.from (count_of o)

-- ---- lines

-- how they are written, each on a line of its own; a number as `number_line`
abbrev pub least_line : Option (ℕ × ℕ) → List ℕ
least_line (Some p) = decimal p.0 ++ 32 ∷ number_line p.1
least_line None = codes "none" ++ LINE_FEED ∷ []

abbrev pub hit_line : Option ℕ → List ℕ
hit_line (Some x) = number_line x
hit_line None = codes "none" ++ LINE_FEED ∷ []

abbrev pub value_line : QueryValue → List ℕ
value_line (Total sum) = number_line sum
value_line (Least least) = least_line least
value_line (Hit hit) = hit_line hit

-- ---- ends

-- the exit status of a job that was refused: 4 for memory
abbrev pub status_of_refusal : Refusal → ℕ
status_of_refusal OutOfMemory = 4
status_of_refusal _ = 3

-- the same of a job over a range, which is run if it has at most `MAX_BLOCKS` blocks, and else ends with 2
abbrev pub EndsRange : RangeOptions → ℕ → List ℕ → Option (List ℕ) → Option (List ℕ) → Type 0
EndsRange o status line start now =
    ((MAX_BLOCKS < blocks_of o) × (status ≡ 2) × (now ≡ start)) ⊎ ((blocks_of o ≤ MAX_BLOCKS) × EndsJob status line start now)

-- the job has more blocks than may be run
abbrev pub HasTooManyBlocks : Job → Type 0
HasTooManyBlocks (Sum o) = MAX_BLOCKS < blocks_of o
HasTooManyBlocks (Min o f) = MAX_BLOCKS < blocks_of o
HasTooManyBlocks (Find o f want) = MAX_BLOCKS < blocks_of o
HasTooManyBlocks (Tree workers) = ⊥

-- ---- trees

-- the whole input is the text of this tree
pub record IsTreeRead (nodes : List Node) (before ahead : Option (List ℕ)) : Type 0 where
  pub tree : IsTree nodes
  pub text : (input : List ℕ) → before ≡ Some input → input ≡ tree_text nodes
  pub whole : IsAtEnd ahead

-- the exit status of a fault of the tree
abbrev pub status_of_fault : TreeFault → ℕ
status_of_fault (Line n) = 3
status_of_fault Memory = 4
status_of_fault Read = 5

-- no tree was read, by this exit status, and nothing was written
abbrev pub ReadsNoTree : ℕ → Option (List ℕ) → Option (List ℕ) → Option (List ℕ) → Type 0
ReadsNoTree status before start now =
    (fault : TreeFault) × (status ≡ status_of_fault fault) × ((input : List ℕ) → before ≡ Some input → FaultOf fault input) × (now ≡ start)

-- a fold ended with this exit status: that of the job of the tree that was read, of which the value of the root is written
abbrev pub EndsTree : ℕ → Option (List ℕ) → Option (List ℕ) → Option (List ℕ) → Option (List ℕ) → Type 0
EndsTree status before ahead start now =
    ((nodes : List Node) × IsTreeRead nodes before ahead × EndsJob status (number_line (node_value nodes 0)) start now)
    ⊎ ReadsNoTree status before start now
