use Rattle.xc_list.proofs.messages.word_fault.Goals as goal

pub returns-in-Unknown : goal.returns-in-Unknown
returns-in-Unknown g c = rw c.in-Unknown.is c.write_word.ensures

pub returns-in-BadNumber : goal.returns-in-BadNumber
returns-in-BadNumber g c = rw c.in-BadNumber.is c.write_word-in-BadNumber.ensures

pub returns-in-ZeroLimit : goal.returns-in-ZeroLimit
returns-in-ZeroLimit g c = rw c.in-ZeroLimit.is c.write_word-in-ZeroLimit.ensures
