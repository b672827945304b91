-- What is under way.
use Rattle.std.specs.Prelude.{ℕ, ◌<◌, vec_capacity, vec_len}
use Rattle.std.specs.VecDeque.{deque_capacity, deque_len}
use Rattle.fj_serve.specs.declared.under_way.UnderWay.{UnderWay}
use Rattle.fj_serve.specs.declared.under_way.UnderWay.TheVariants.{InOrder, AsTheyEnd}

-- how many there are
abbrev pub how_many : UnderWay → ℕ
how_many (InOrder tickets) = deque_len tickets
how_many (AsTheyEnd numbered) = vec_len numbered.tickets

-- there is room for one more
abbrev pub HasRoom : UnderWay → Type 0
HasRoom (InOrder tickets) = deque_len tickets < deque_capacity tickets
HasRoom (AsTheyEnd numbered) = (vec_len numbered.tickets < vec_capacity numbered.tickets) × (vec_len numbered.nths < vec_capacity numbered.nths)
