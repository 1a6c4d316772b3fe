-- What a reader has to believe: Rules. RuleLaws says what follows.
pub mod Rules
pub mod RuleLaws
