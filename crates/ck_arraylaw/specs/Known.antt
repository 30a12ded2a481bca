-- What a token's account tells of the array, in a domain whose client holds it.
use Rattle.ck_run.specs.Tokens.{number, did}
use Rattle.ck_epoch.specs.State.{Origin, Token}
use Rattle.ck_arraylaw.specs.Host.{Host, floor_word, base_word}
use Rattle.ck_arraylaw.specs.Array.{LocalState}
use Rattle.ck_arraylaw.specs.Client.{local_after}

-- where the token stands within the array's calls, and what it answered
abbrev pub knows : {D : Type 0} → Host D → Origin D → Token D → LocalState
knows h origin t = local_after (floor_word h origin) (base_word h origin) (number t) (did t)
