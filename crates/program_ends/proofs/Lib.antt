mod OneRead
