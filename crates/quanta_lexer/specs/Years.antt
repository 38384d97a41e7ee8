-- Days and leap years counted over years, to claim that the counts are right.
use Rattle.std.specs.Prelude.{ℕ, zero, suc, ◌+◌, cond}
use Rattle.quanta_lexer.specs.Days.{leap_year, month_days}

-- f 0 to f (n - 1), added up
unfoldable pub total : (ℕ → ℕ) → ℕ → ℕ
total f zero = 0
total f (suc n) = total f n + f n

-- the days of a year, over all the months that two digits write
unfoldable pub year_days : ℕ → ℕ
year_days y = total (month_days y) 100

-- the days of n years from y on
unfoldable pub days_of : ℕ → ℕ → ℕ
days_of n y = total (λ k. year_days (y + k)) n

-- the leap years of n years from y on
unfoldable pub leaps_of : ℕ → ℕ → ℕ
leaps_of n y = total (λ k. cond (leap_year (y + k)) 1 0) n
