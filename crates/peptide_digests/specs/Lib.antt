-- What a reader has to believe: DigestTests. DigestTestLaws says what follows.
pub mod DigestTests
pub mod DigestTestLaws
