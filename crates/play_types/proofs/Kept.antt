-- Arrays of which only the first places are used.
use Rattle.std.proofs.Common.{◌≡◌, ℕ, ◌-◌, ◌≤◌, List, ◌++◌, length, take, drop, replicate}
use Rattle.std.proofs.lemmas.List.{drop-replicate, drop_at, length-take-le}

-- writing the first n items over m copies of one item leaves the items, and copies after them
pub kept_is : {X : Type 0} (prefix xs : List X) (n m used : ℕ) (x : X) → prefix ≡ take used xs → used ≡ n → prefix ++ drop used (replicate m x) ≡ take n xs ++ replicate (m - n) x
kept_is prefix xs n m used x written e = rw (written, e, drop-replicate n m x)

-- after the first n items comes what was put there
pub rest_is : {X : Type 0} (xs back : List X) (n : ℕ) → n ≤ length xs → drop n (take n xs ++ back) ≡ back
rest_is xs back n h = drop_at (take n xs) back n (length-take-le n xs h)
