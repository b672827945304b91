-- The numbers at the ends of a queue, where cells are at its ends.
use Rattle.std.proofs.Common.{ℕ, ◌≡◌, ◌<◌, List, [], ◌∷◌, ◌++◌, length, map, Option, Some, get_or, sym, ap, ◌∙◌}
use Rattle.std.proofs.lemmas.List.{map-append}
use Rattle.fj_rules.specs.Lists.{first_of, last_of}
use Rattle.fj_queues.specs.declared.cells.Cell.{Cell}
use Rattle.fj_queues.specs.declared.ends.Ends.{Ends}
use Rattle.fj_queues.specs.Cells.{serial_at}
use Rattle.fj_queues.specs.Tables.{no_ends, lists_of, IsTable}
use Rattle.fj_queues.proofs.Chains.Links.{split_first, split_last, newest_pushed}
use Rattle.fj_queues.proofs.Table.TableSteps.{seen, chain_of}

pub oldest_seen : (cells : List Cell) (free : Option ℕ) (ends : List Ends) (n o : ℕ) (e : Ends) → IsTable cells free ends [] → o < length ends → e ≡ get_or ends o no_ends → e.oldest ≡ Some n
    → Some (serial_at cells n) ≡ first_of (get_or (lists_of cells ends) o [])
oldest_seen cells free ends n o e t within is first =
    let chain = chain_of cells free ends [] t o within e is in
    let split = split_first n (get_or t.chains o []) (sym chain.oldest ∙ first) in
    let shown : serial_at cells n ∷ map (serial_at cells) split.0 ≡ get_or (lists_of cells ends) o [] = sym (seen cells free ends [] t o within ∙ ap (map (serial_at cells)) split.1) in
    ap first_of shown

pub newest_seen : (cells : List Cell) (free : Option ℕ) (ends : List Ends) (n o : ℕ) (e : Ends) → IsTable cells free ends [] → o < length ends → e ≡ get_or ends o no_ends → e.newest ≡ Some n
    → Some (serial_at cells n) ≡ last_of (get_or (lists_of cells ends) o [])
newest_seen cells free ends n o e t within is last =
    let chain = chain_of cells free ends [] t o within e is in
    let split = split_last n (get_or t.chains o []) (sym chain.newest ∙ last) in
    let cs = split.0 in
    let shown : map (serial_at cells) cs ++ serial_at cells n ∷ [] ≡ get_or (lists_of cells ends) o [] =
    sym (seen cells free ends [] t o within ∙ ap (map (serial_at cells)) split.1 ∙ map-append (serial_at cells) cs (n ∷ [])) in
    sym (newest_pushed (map (serial_at cells) cs) (serial_at cells n)) ∙ ap last_of shown
