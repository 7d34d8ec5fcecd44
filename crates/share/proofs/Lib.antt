-- Laws of the even share. Nothing here needs to be believed: it is all proved.
pub mod Even
