-- What each kind of step does to the view of the seat that makes it. A step that reads a word gives its old value.
use Rattle.std.specs.Prelude.{ℕ, ◌+◌, ◌-◌, ◌==◌, nat_lt, min, if◌then◌else◌, [], ◌∷◌, ◌++◌}
use Rattle.block_board.specs.declared.view.View.{View}
use Rattle.block_board.specs.Counts.{no_stop}

-- the tickets of a view, left and used
abbrev pub all_tickets : View → ℕ
all_tickets v = v.tickets + v.used

-- the view of the first seat: it has a ticket for each worker, and has done nothing
abbrev pub opened : ℕ → ℕ → View
opened n w = record {
  blocks = n;
  workers = w;
  tickets = w;
  used = 0;
  claims = [];
  published = [];
  seen = [];
  lowered = [];
  least = no_stop;
  steps = 0;
  last = (0, 0);
}

-- claim found k: a block joins the claims, and a number past the blocks uses a ticket
abbrev pub after_claim : View → ℕ → View
after_claim v k =
    if nat_lt k v.blocks then record v { claims = v.claims ++ k ∷ []; steps = v.steps + 1; last = (0, k) }
    else record v { tickets = v.tickets - 1; used = v.used + 1; steps = v.steps + 1; last = (0, k) }

-- publish wrote the code of block b: the pair joins what was published
abbrev pub after_publish : View → ℕ → ℕ → View
after_publish v b code = record v { published = v.published ++ (b, code) ∷ []; steps = v.steps + 1 }

-- look found k at block b: a code joins what was seen, and 0 is none
abbrev pub after_look : View → ℕ → ℕ → View
after_look v b k =
    if k == 0 then record v { steps = v.steps + 1; last = (2 + b, k) }
    else record v { seen = v.seen ++ (b, k) ∷ []; steps = v.steps + 1; last = (2 + b, k) }

-- lower found the stop k: the number joins those that were lowered
abbrev pub after_lower : View → ℕ → ℕ → View
after_lower v number k = record v { lowered = v.lowered ++ number ∷ []; steps = v.steps + 1; last = (1, k) }

-- stop found k: the least stop becomes the lesser of itself and k
abbrev pub after_stop : View → ℕ → View
after_stop v k = record v { least = min v.least k; steps = v.steps + 1; last = (1, k) }

-- the next number was read, and was k
abbrev pub after_next : View → ℕ → View
after_next v k = record v { steps = v.steps + 1; last = (0, k) }

-- t tickets are handed over
abbrev pub cut : View → ℕ → View
cut v t = record v { tickets = v.tickets - t }

-- the view of a new seat with t tickets, of the same board
abbrev pub given : View → ℕ → View
given v t = record (opened v.blocks v.workers) { tickets = t }

-- what two views did and saw together
abbrev pub merged : View → View → View
merged v u = record v {
  tickets = v.tickets + u.tickets;
  used = v.used + u.used;
  claims = v.claims ++ u.claims;
  published = v.published ++ u.published;
  seen = v.seen ++ u.seen;
  lowered = v.lowered ++ u.lowered;
  least = min v.least u.least;
}

-- the view of a seat that was joined into another: nothing is left
abbrev pub spent : View
spent = opened 0 0

-- split found the next number k: t tickets are handed over
abbrev pub after_split : View → ℕ → ℕ → View
after_split v t k = after_next (cut v t) k

-- join found the next number k: the other view is taken in
abbrev pub after_join : View → View → ℕ → View
after_join v u k = after_next (merged v u) k
