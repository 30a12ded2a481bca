-- How a table's key is spelt, and what is wrong with a word that spells none.
use Rattle.std.specs.Prelude.{◌≡◌, ℕ, ◌^◌, ◌-◌, ◌⊎◌, List, decimal, refl}
use Rattle.std.proofs.Common.{inl, inr, arith, lit<}
use Rattle.ck_history.specs.Key.{IsKey}
use Rattle.ck_text.specs.Words.{IsWord}
use Rattle.ck_text.specs.Decimals.{IsWideNumber}
use Rattle.ck_text.specs.Laws.{decimal_one_word, decimal_tells}
use Rattle.ck_script.specs.declared.fault.Why.{Why}
use Rattle.ck_script.specs.declared.fault.Why.TheVariants.{Verb, Shape, Number, Key, Beyond, Many, Circle}

-- it is no number of 128 bits, or one of the two that are reserved
abbrev pub IsTableKeyFault : List ℕ → Why → Type 0
IsTableKeyFault w Number = IsWideNumber w → ⊥
IsTableKeyFault w Key = (w ≡ decimal 0) ⊎ (w ≡ decimal (2 ^ 128 - 1))
IsTableKeyFault w _ = ⊥

-- two keys have two spellings
pub one_table_key : (j k : ℕ) → IsKey j → IsKey k → decimal j ≡ decimal k → j ≡ k
one_table_key j k hj hk e = decimal_tells j k (omega arith) (omega arith) e

pub table_key_one_word : (k : ℕ) → IsKey k → IsWord (decimal k)
table_key_one_word k h = decimal_one_word k (omega arith)

pub table_key_faultless : (k : ℕ) (why : Why) → IsKey k → IsTableKeyFault (decimal k) why → ⊥
table_key_faultless k Number h fault = fault (k, omega arith, refl)
table_key_faultless k Key h (inl e) = omega (arith, decimal_tells k 0 (omega arith) (lit< tt) e)
table_key_faultless k Key h (inr e) = omega (arith, decimal_tells k (2 ^ 128 - 1) (omega arith) (lit< tt) e)
table_key_faultless k Verb h fault = fault
table_key_faultless k Shape h fault = fault
table_key_faultless k Beyond h fault = fault
table_key_faultless k Many h fault = fault
table_key_faultless k Circle h fault = fault

pub table_key_fault : (w : List ℕ) (why : Why) → IsTableKeyFault w why → (why ≡ Number) ⊎ (why ≡ Key)
table_key_fault w Number fault = inl refl
table_key_fault w Key fault = inr refl
table_key_fault w Verb fault = absurd fault
table_key_fault w Shape fault = absurd fault
table_key_fault w Beyond fault = absurd fault
table_key_fault w Many fault = absurd fault
table_key_fault w Circle fault = absurd fault
